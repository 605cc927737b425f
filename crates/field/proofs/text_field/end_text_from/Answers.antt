-- `field::text_field::end_text_from` meets its contract.
-- Assumes nothing.
use mathlib.Core.Path.{refl, ap, ◌∙◌}
use borrow.Author.Tests.{eq-eqb, ne_eqb}
use Rattle.field.specs.Text.{end_text_from}
use Rattle.number.specs.Trim.{kept}
use Rattle.field.proofs.text_field.end_text_from.Goals as goal

pub returns-then-n-eq0 : goal.returns-then-n-eq0
unfolding end_text_from
returns-then-n-eq0 c =
    let n = c.kept_length-n.ensures ∙ ap kept c.from_column.ensures in
    c.new.ensures ∙ rw (← n, eq-eqb c.kept_length-n.result 0 c.if-n-eq0.true) refl

pub returns : goal.returns
unfolding end_text_from
returns c =
    let n = c.kept_length-n.ensures ∙ ap kept c.from_column.ensures in
    c.new-2.ensures ∙ rw (← n, ne_eqb c.kept_length-n.result 0 c.if-n-eq0.false) refl
