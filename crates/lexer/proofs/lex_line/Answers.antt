-- `lexer::lex_line` meets its contract: its first tests are those of `entry_tests`, and `read_as` makes the others.
-- Assumes nothing.
use Rattle.lexer.specs.Refusals.{Input}
use Rattle.lexer.proofs.Laws.Tests.{lexed-split, after-ok}
use Rattle.lexer.proofs.lex_line.Goals as goal

pub returns-in-Err : goal.returns-in-Err
returns-in-Err c =
    let a = c.args in
    let i : Input = record { line = a.line.now; number = a.number; options = a.options; remarks = a.remarks.now } in
    rw (lexed-split i, ← c.test_entry.ensures, c.in-Err.is) c.refuse.ensures

pub returns : goal.returns
returns c =
    let a = c.args in
    let i : Input = record { line = a.line.now; number = a.number; options = a.options; remarks = a.remarks.now } in
    let passes = c.in_default.not-Err in
    rw (lexed-split i, ← c.test_entry.ensures, after-ok, ← c.kind_of.ensures) c.read_as.ensures
