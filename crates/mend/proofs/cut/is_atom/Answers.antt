-- `mend::cut::is_atom` meets its contract.
-- Assumes nothing.
use mathlib.Core.Path.{refl, sym, ap, ◌∙◌}
use borrow.Author.Tests.{ne_eqb}
use Rattle.kind.specs.Kind.{number_of}
use Rattle.mend.proofs.cut.is_atom.Goals as goal

pub returns-then-number-eq3 : goal.returns-then-number-eq3
returns-then-number-eq3 c =
    let number = sym (c.number_of-number.ensures ∙ ap number_of c.kind_of.ensures) ∙ c.if-number-eq3.true in
    rw number refl

pub returns : goal.returns
returns c =
    let number = c.number_of-number.ensures ∙ ap number_of c.kind_of.ensures in
    rw (← number, ne_eqb _ 3 c.if-number-eq3.false) refl
