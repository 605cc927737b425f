-- `page::hex_digit` meets its contract: its test is the definition's.
-- Assumes nothing.
use mathlib.Core.Path.{refl}
use borrow.Author.Tests.{lt-ltb, le-ltb}
use Rattle.page.specs.Numerals.{hex_digit}
use Rattle.page.proofs.hex_digit.Goals as goal

pub returns-then-d-lt10 : goal.returns-then-d-lt10
unfolding hex_digit
returns-then-d-lt10 c = simp (lt-ltb _ _ c.if-d-lt10.true)

pub returns : goal.returns
unfolding hex_digit
returns c = simp (le-ltb _ _ c.if-d-lt10.false) refl
