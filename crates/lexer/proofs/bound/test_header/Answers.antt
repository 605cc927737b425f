-- `lexer::bound::test_header` meets its contract.
-- Assumes nothing.
use mathlib.Core.Path.{refl}
use borrow.Author.Tests.{lt-ltb, le-ltb}
use lib.ListN.{length}
use Rattle.lexer.specs.Steps.{header_test}
use Rattle.lexer.proofs.bound.test_header.Goals as goal

pub returns-then-n : goal.returns-then-n
unfolding header_test
returns-then-n c = rw (le-ltb (length c.args.line.now) 66 c.if-n.true) refl

pub returns : goal.returns
unfolding header_test
returns c = rw (lt-ltb (length c.args.line.now) 66 c.if-n.false, c.new.ensures, c.saturating_sub.ensures) refl
