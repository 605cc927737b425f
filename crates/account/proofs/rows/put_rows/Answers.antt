-- `account::rows::put_rows` meets its contract. The loop's invariant: with the faults that are left, the page is as all faults leave it.
-- Assumes nothing.
use borrow.Author.Rules.{rules}
use Rattle.layout.proofs.Laws.Each.{each_next, each-done}
use Rattle.account.specs.Account.{fault_row}
use Rattle.account.proofs.rows.put_rows.Goals as goal

pub loop-fault-preserved : goal.loop-fault-preserved
loop-fault-preserved c =
    let l = c.loop-fault in
    (search rules, each_next (fault_row c.args.kind) _ l.fault-index _ _ _ _ c.loop-fault-test.true c.put_row-next.ensures l.invariant.1)

pub returns : goal.returns
returns c = each-done (fault_row c.args.kind) _ _ _ _ c.loop-fault-test.false c.loop-fault.invariant.1
