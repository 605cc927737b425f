-- `ledger::accepted::enter_kind` meets its contract: the calls are the steps of its definition.
-- Assumes nothing.
use Rattle.ledger.proofs.Laws.Steps.{kind-steps}
use Rattle.ledger.proofs.accepted.enter_kind.Goals as goal

pub returns : goal.returns
returns c = kind-steps _ _ _ _ _ _ _ _ _ _ _ _ c.one.ensures c.add.ensures c.is_atom.ensures c.one-2.ensures c.add-2.ensures c.is_atom_and.ensures c.one-3.ensures c.add-3.ensures c.raise.ensures
