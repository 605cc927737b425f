-- `lexer::read_line_as` meets its contract: its first tests are those of `entry_tests`, then comes that of the kind, and `read_as` makes the others.
-- Assumes nothing.
use mathlib.Core.Path.{◌≡◌, sym, ap, ◌∙◌}
use borrow.Author.Tests.{eq-eqb, ne_eqb}
use Rattle.kind.specs.Kind.{number_of}
use Rattle.kind.specs.declared.Kind.{Kind}
use Rattle.lexer.specs.Refusals.{Input, kind, given}
use Rattle.lexer.specs.Steps.{read_as, refused_with}
use Rattle.lexer.proofs.Laws.Tests.{as_split, after-ok}
use Rattle.lexer.proofs.read_line_as.Goals as goal

pub returns-in-Err : goal.returns-in-Err
returns-in-Err c =
    let a = c.args in
    let i : Input = record { line = a.line.now; number = a.number; options = a.options; remarks = a.remarks.now } in
    rw (as_split i a.kind, ← c.test_entry.ensures, c.in-Err.is) c.refuse.ensures

pub returns-then-number_of : goal.returns-then-number_of
returns-then-number_of c =
    let a = c.args in
    let i : Input = record { line = a.line.now; number = a.number; options = a.options; remarks = a.remarks.now } in
    let k = c.kind_of-own.ensures in
    let passes = c.in_default.not-Err in
    let other : number_of a.kind ≡ number_of (kind i) → ⊥ =
    λ e. c.if-number_of.true (c.number_of.ensures ∙ e ∙ sym (c.number_of-2.ensures ∙ ap number_of k)) in
    rw (as_split i a.kind, ← c.test_entry.ensures, after-ok, ne_eqb _ _ other)
    (c.refuse-then-number_of.ensures ∙ ap (refused_with a.number) c.new.ensures)

pub returns : goal.returns
returns c =
    let a = c.args in
    let i : Input = record { line = a.line.now; number = a.number; options = a.options; remarks = a.remarks.now } in
    let k = c.kind_of-own.ensures in
    let passes = c.in_default.not-Err in
    let same : number_of a.kind ≡ number_of (kind i) =
    sym c.number_of.ensures ∙ c.if-number_of.false ∙ c.number_of-2.ensures ∙ ap number_of k in
    rw (as_split i a.kind, ← c.test_entry.ensures, after-ok, eq-eqb _ _ same)
    (c.read_as.ensures ∙ ap (λ (j : Kind). read_as a.number j (given i)) k)
