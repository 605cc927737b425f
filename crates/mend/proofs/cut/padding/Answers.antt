-- `mend::cut::padding` meets its contract.
-- Assumes nothing.
use mathlib.Core.Path.{sym, ◌∙◌}
use Rattle.mend.proofs.Laws.Mended.{padding-none, pad_cut, pad_atom, pad_other}
use Rattle.mend.proofs.Laws.Cut.{cut-by}
use Rattle.mend.proofs.cut.padding.Goals as goal

pub returns-then-n-ge80 : goal.returns-then-n-ge80
returns-then-n-ge80 c = sym (padding-none _ c.if-n-ge80.true)

pub returns-then-is_some : goal.returns-then-is_some
returns-then-is_some c = pad_cut _ (cut-by _ _ _ _ c.cut_field.ensures c.is_some.ensures c.if-is_some.true)

pub returns-then-is_atom : goal.returns-then-is_atom
returns-then-is_atom c = pad_atom _ (cut-by _ _ _ _ c.cut_field.ensures c.is_some.ensures c.if-is_some.false) (sym c.is_atom.ensures ∙ c.if-is_atom.true)

pub returns : goal.returns
returns c = pad_other _ (sym c.is_atom.ensures ∙ c.if-is_atom.false)
