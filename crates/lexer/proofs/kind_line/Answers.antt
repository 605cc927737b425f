-- `lexer::kind_line` meets its contract: its tests are those of `line_tests`.
-- Assumes nothing.
use Rattle.std.proofs.lemmas.Result.{err_from_is_err_and}
use mathlib.Core.Path.{refl}
use Rattle.lexer.proofs.Laws.Tests.{asked-split}
use Rattle.lexer.proofs.kind_line.Goals as goal

pub returns-in_err-test_line : goal.returns-in_err-test_line
returns-in_err-test_line c =
    let a = c.args in
    let p = err_from_is_err_and c.from_residual.result c.from_residual.ensures.1 in
    rw (p.1, p.2, asked-split a.line.now a.options, ← c.test_line.ensures, c.in_err-test_line.was) refl

pub returns : goal.returns
returns c =
    let a = c.args in
    rw (asked-split a.line.now a.options, ← c.test_line.ensures, c.in_ok-test_line.was, c.kind_of.ensures) refl
