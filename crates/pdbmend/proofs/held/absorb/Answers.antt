-- `pdbmend::held::absorb` meets its contract.
-- Assumes nothing.
use mathlib.Core.Path.{refl}
use native.Mathlib.Omega.{arith}
use Rattle.pdbmend.proofs.Laws.Held.{absorb_here, absorb_full, absorb_next, absorb_none}
use Rattle.pdbmend.proofs.held.absorb.Goals as goal

pub loop-i-init : goal.loop-i-init
loop-i-init c = (c.requires, omega arith, record { count = refl; offset = refl; bytes = refl })

pub returns-then-part-i-eq10 : goal.returns-then-part-i-eq10
returns-then-part-i-eq10 c = absorb_here _ _ _ _ _ _ _ c.loop-i.invariant.2 c.loop-i-test.true c.if-part-i-eq10.true

pub returns-then-k-ge1026 : goal.returns-then-k-ge1026
returns-then-k-ge1026 c = absorb_full _ _ _ _ _ _ _ c.loop-i.invariant.2 c.loop-i-test.true c.if-k-ge1026.true

pub loop-i-preserved : goal.loop-i-preserved
loop-i-preserved c =
    let l = c.loop-i in
    (omega (arith, c.if-k-ge1026.false), omega (arith, l.invariant.1), absorb_next _ _ _ _ _ _ _ l.invariant.2 c.loop-i-test.true c.if-part-i-eq10.false (omega (arith, c.if-k-ge1026.false)))

pub returns : goal.returns
returns c = absorb_none _ _ _ _ _ _ _ c.loop-i.invariant.2 c.loop-i-test.false
