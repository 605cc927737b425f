-- `ledger::accepted::enter_accepted` meets its contract: the calls are the steps of its definition.
-- Assumes nothing.
use native.Mathlib.Omega.{arith}
use Rattle.ledger.proofs.Laws.Steps.{accepted-steps}
use Rattle.ledger.proofs.accepted.enter_accepted.Goals as goal

pub returns : goal.returns
returns c =
    let many = c.well_formed in
    accepted-steps _ _ _ _ _ _ _ _ _ _ _ _ _ _ (omega arith) c.min-n.ensures c.any_at-off.ensures c.any_at.ensures c.one-cut.ensures
    c.number_of.ensures c.enter_kind.ensures c.one.ensures c.add.ensures c.enter_faults.ensures
