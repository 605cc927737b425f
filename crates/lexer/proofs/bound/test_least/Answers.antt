-- `lexer::bound::test_least` meets its contract.
-- Assumes nothing.
use mathlib.Core.Path.{refl}
use borrow.Author.Tests.{lt-ltb, le-ltb}
use Rattle.lexer.specs.Steps.{least_test}
use Rattle.lexer.proofs.bound.test_least.Goals as goal

pub returns-then-n-least : goal.returns-then-n-least
unfolding least_test
returns-then-n-least c = rw (lt-ltb _ _ c.if-n-least.true, c.new.ensures) refl

pub returns : goal.returns
unfolding least_test
returns c = rw (le-ltb _ _ c.if-n-least.false) refl
