-- `ledger::summary::put_off_hint` meets its contract: test by test.
-- Assumes nothing.
use mathlib.Core.Path.{refl}
use borrow.Author.Tests.{eq-eqb, ne_eqb}
use Rattle.page.specs.Page.{put}
use Rattle.ledger.specs.Summary.{off_hint}
use Rattle.ledger.proofs.summary.put_off_hint.Goals as goal

pub returns-then-atoms-eq0 : goal.returns-then-atoms-eq0
unfolding off_hint put
returns-then-atoms-eq0 c = rw (eq-eqb _ _ c.if-atoms-eq0.true) (refl)

pub returns-then-atoms-off : goal.returns-then-atoms-off
unfolding off_hint put
returns-then-atoms-off c = rw (ne_eqb _ _ c.if-atoms-eq0.false, ne_eqb _ _ c.if-atoms-off.true) (refl)

pub returns : goal.returns
unfolding off_hint put
returns c = rw (ne_eqb _ _ c.if-atoms-eq0.false, eq-eqb _ _ c.if-atoms-off.false) c.put_bytes.ensures
