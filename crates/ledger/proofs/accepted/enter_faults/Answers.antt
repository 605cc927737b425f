-- `ledger::accepted::enter_faults` meets its contract. The loop's invariant: with the faults that are left, the words are as all of them leave them.
-- Assumes nothing.
use Rattle.names.proofs.Laws.Names.{group-few}
use Rattle.ledger.proofs.Laws.Turns.{faults-next, faults-end}
use Rattle.ledger.proofs.accepted.enter_faults.Goals as goal

pub enter_fault-requires : goal.enter_fault-requires
enter_fault-requires c = rw c.group_of.ensures (group-few _ _)

pub loop-fault-preserved : goal.loop-fault-preserved
loop-fault-preserved c =
    let turn = c.loop-fault in
    faults-next _ _ _ c.args.faults.now _ _ turn.invariant _ _ c.loop-fault-test.true (rw c.group_of.ensures at c.enter_fault.ensures)

pub returns : goal.returns
returns c = faults-end _ _ _ c.args.faults.now _ _ c.loop-fault.invariant c.loop-fault-test.false
