-- `field::remark::known` meets its contract.
-- Assumes nothing.
use mathlib.Core.Path.{refl, sym, ◌∙◌}
use Rattle.field.specs.Remark.{known_faults}
use Rattle.field.proofs.remark.known.Goals as goal

pub returns-then-is_known : goal.returns-then-is_known
unfolding known_faults
returns-then-is_known c = rw (sym c.is_known.ensures ∙ c.if-is_known.true) refl

pub returns : goal.returns
unfolding known_faults
returns c = c.note.ensures ∙ rw (c.new.ensures, c.width.ensures, sym c.is_known.ensures ∙ c.if-is_known.false) refl
