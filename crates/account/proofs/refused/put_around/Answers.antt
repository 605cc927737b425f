-- `account::refused::put_around` meets its contract.
-- Assumes nothing.
use mathlib.Core.Path.{refl}
use borrow.Author.Tests.{eq-eqb, ne_eqb}
use Rattle.line.specs.Columns.{rest_of}
use Rattle.page.specs.Page.{put}
use Rattle.account.specs.Account.{around}
use Rattle.account.proofs.refused.put_around.Goals as goal

pub returns-then-number-eq2 : goal.returns-then-number-eq2
unfolding around put
returns-then-number-eq2 c = rw (eq-eqb _ 2 c.if-number-eq2.true) refl

pub returns : goal.returns
unfolding around rest_of
returns c = rw (ne_eqb _ 2 c.if-number-eq2.false) (rw (c.from_column.ensures, c.shown_from.ensures) at c.put_line.ensures)
