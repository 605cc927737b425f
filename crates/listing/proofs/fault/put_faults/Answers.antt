-- `listing::fault::put_faults` meets its contract. The loop's invariant: with the faults that are left, the page is as all faults leave it.
-- Assumes nothing.
use native.Mathlib.Omega.{arith}
use borrow.Author.Rules.{rules}
use Rattle.layout.specs.Fault.{fault_bytes}
use Rattle.layout.proofs.Laws.Each.{each_next, each-done}
use Rattle.listing.proofs.fault.put_faults.Goals as goal

pub loop-fault-preserved : goal.loop-fault-preserved
loop-fault-preserved c =
    let l = c.loop-fault in
    (search rules, each_next fault_bytes _ l.fault-index _ _ _ _ (omega arith) c.put_fault-next.ensures l.invariant.1)

pub returns : goal.returns
returns c =
    let l = c.loop-fault in
    each-done fault_bytes _ l.fault-index _ _ (omega arith) l.invariant.1
