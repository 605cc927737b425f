-- `mend::cut::left_cut` meets its contract.
-- Assumes nothing.
use mathlib.Core.Path.{refl, sym, ◌∙◌}
use Rattle.mend.specs.Mend.{left_cut}
use Rattle.mend.proofs.cut.left_cut.Goals as goal

pub returns-then-is_atom : goal.returns-then-is_atom
unfolding left_cut
returns-then-is_atom c = rw (sym c.is_atom.ensures ∙ c.if-is_atom.true) c.cut_field.ensures

pub returns : goal.returns
unfolding left_cut
returns c = rw (sym c.is_atom.ensures ∙ c.if-is_atom.false) refl
