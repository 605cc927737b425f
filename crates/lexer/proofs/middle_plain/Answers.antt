-- `lexer::middle_plain` meets its contract: where no byte is high, every byte is plain.
-- Assumes nothing.
use mathlib.Core.Path.{◌∙◌, sym}
use native.Mathlib.Omega.{arith}
use borrow.Author.Tests.{ltb-false}
use lib.ListN.{length}
use Rattle.lexer.specs.Refusals.{plain}
use Rattle.lexer.proofs.Laws.Plain.{plain-le}
use Rattle.lexer.proofs.middle_plain.Goals as goal

pub returns : goal.returns
returns c =
    let t = c.args.line.now in
    omega (arith, plain-le t, ltb-false (plain t) (length t) (sym c.has_high.ensures ∙ c.if-has_high.false))
