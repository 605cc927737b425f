-- `lexer::read_as` meets its contract: the test is that of `read_as`.
-- Assumes nothing.
use mathlib.Core.Path.{ap, ◌∙◌}
use Rattle.lexer.specs.Steps.{read_as, own_test}
use Rattle.lexitem.specs.declared.bound.Bound.{Bound}
use Rattle.lexer.proofs.Laws.Tests.{after-ok}
use Rattle.lexer.proofs.read_as.Goals as goal

pub returns-in-Err : goal.returns-in-Err
unfolding read_as
returns-in-Err c =
    let a = c.args in
    let o = c.test_own.ensures ∙ ap (λ (b : Bound). own_test b a.line.now a.options.loose) c.bound_of.ensures in
    rw (← o, c.in-Err.is) c.refuse.ensures

pub returns : goal.returns
unfolding read_as
returns c =
    let a = c.args in
    let o = c.test_own.ensures ∙ ap (λ (b : Bound). own_test b a.line.now a.options.loose) c.bound_of.ensures in
    let passes = c.in_default.not-Err in
    rw (← o, after-ok) c.lex_kind.ensures
