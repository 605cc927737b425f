-- `verdict::fewer` meets its contract. The loop's invariant: the places that are left tell what all of them do.
-- Assumes nothing.
use mathlib.Core.Path.{refl}
use Rattle.verdict.proofs.Laws.Fewer.{fewer_here, fewer-next, fewer-end}
use Rattle.verdict.proofs.fewer.Goals as goal

pub loop-i-init : goal.loop-i-init
loop-i-init c = refl

pub returns-then-counted-i : goal.returns-then-counted-i
returns-then-counted-i c = fewer_here _ _ c.requires _ c.loop-i.invariant c.loop-i-test.true c.if-counted-i.true

pub loop-i-preserved : goal.loop-i-preserved
loop-i-preserved c = fewer-next _ _ c.requires _ c.loop-i.invariant c.loop-i-test.true c.if-counted-i.false

pub returns : goal.returns
returns c = fewer-end _ _ c.requires _ c.loop-i.invariant c.loop-i-test.false
