-- `account::refused::put_plural` meets its contract.
-- Assumes nothing.
use mathlib.Core.Path.{refl}
use borrow.Author.Tests.{eq-eqb, ne_eqb}
use Rattle.page.specs.Page.{put}
use Rattle.account.specs.Account.{plural}
use Rattle.account.proofs.refused.put_plural.Goals as goal

pub returns-then-n-eq1 : goal.returns-then-n-eq1
unfolding plural put
returns-then-n-eq1 c = rw (eq-eqb _ 1 c.if-n-eq1.true) refl

pub returns : goal.returns
unfolding plural
returns c = rw (ne_eqb _ 1 c.if-n-eq1.false) c.put_bytes.ensures
