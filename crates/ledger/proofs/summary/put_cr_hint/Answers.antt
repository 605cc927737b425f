-- `ledger::summary::put_cr_hint` meets its contract: by the one test.
-- Assumes nothing.
use mathlib.Core.Path.{refl}
use borrow.Author.Tests.{eq-eqb, ne_eqb}
use Rattle.page.specs.Page.{put}
use Rattle.ledger.specs.Summary.{cr_hint}
use Rattle.ledger.proofs.summary.put_cr_hint.Goals as goal

pub returns-then-cr-eq0 : goal.returns-then-cr-eq0
unfolding cr_hint put
returns-then-cr-eq0 c = rw (eq-eqb _ _ c.if-cr-eq0.true) (refl)

pub returns : goal.returns
unfolding cr_hint put
returns c = rw (ne_eqb _ _ c.if-cr-eq0.false) c.put_bytes.ensures
