-- `lexer::plain_length` meets its contract: where the highest byte is below 128, every byte is plain.
-- Assumes nothing.
use mathlib.Core.Path.{sym}
use native.Mathlib.Omega.{arith}
use Rattle.lexer.proofs.Laws.Plain.{plain-whole}
use Rattle.lexer.proofs.plain_length.Goals as goal

pub returns-then-highest-lt128 : goal.returns-then-highest-lt128
returns-then-highest-lt128 c = sym (plain-whole c.args.line.now 0 (omega arith))
