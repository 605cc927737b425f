-- `field::text_field::fine_text` meets its contract.
-- Assumes nothing.
use mathlib.Core.Path.{refl, sym, ◌∙◌}
use Rattle.field.specs.Text.{text_at, text_faults}
use Rattle.field.proofs.text_field.fine_text.Goals as goal

pub returns-then-ends_before : goal.returns-then-ends_before
unfolding text_faults
returns-then-ends_before c = rw (sym c.ends_before.ensures ∙ c.if-ends_before.true) refl

pub returns : goal.returns
unfolding text_at text_faults
returns c = rw (c.shifted.ensures, c.part.ensures, sym c.ends_before.ensures ∙ c.if-ends_before.false) refl
