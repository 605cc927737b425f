-- `ledger::accepted::is_atom_and` meets its contract: by the one test.
-- Assumes nothing.
use mathlib.Core.Path.{refl, sym, ◌∙◌}
use Rattle.ledger.proofs.accepted.is_atom_and.Goals as goal

pub returns-then-is_atom : goal.returns-then-is_atom
returns-then-is_atom c = rw (sym c.is_atom.ensures ∙ c.if-is_atom.true) refl

pub returns : goal.returns
returns c = rw (sym c.is_atom.ensures ∙ c.if-is_atom.false) refl
