-- `carry::behind_last` meets its contract: the bytes behind `i` hold no LF, and so the first one found from the end is the last.
-- Assumes nothing.
use native.Mathlib.Omega.{arith}
use Rattle.carry.proofs.Laws.Whole.{whole_here, whole-other, whole-none, whole-end}
use Rattle.carry.proofs.behind_last.Goals as goal

pub loop-i-init : goal.loop-i-init
loop-i-init c = (whole-end c.args.part.now, omega arith)

pub returns-then-part-i-eq10 : goal.returns-then-part-i-eq10
returns-then-part-i-eq10 c =
    let last = whole_here c.args.part.now c.args.at c.loop-i.i c.loop-i.invariant.0 c.loop-i-test.true c.loop-i.invariant.1 c.if-part-i-eq10.true in
    omega arith

pub loop-i-preserved : goal.loop-i-preserved
loop-i-preserved c =
    let turn = c.loop-i.invariant in
    (whole-other _ _ _ turn.0 c.loop-i-test.true turn.1 c.if-part-i-eq10.false, omega (arith, turn.1))

pub returns : goal.returns
returns c = whole-none _ _ _ c.loop-i.invariant.0 c.loop-i-test.false
