-- `ledger::summary::put_cut_hint` meets its contract: test by test.
-- Assumes nothing.
use mathlib.Core.Path.{refl}
use borrow.Author.Tests.{eq-eqb, ne_eqb}
use Rattle.page.specs.Page.{put}
use Rattle.ledger.specs.Summary.{cut_hint}
use Rattle.ledger.proofs.summary.put_cut_hint.Goals as goal

pub returns-then-cut-ne0 : goal.returns-then-cut-ne0
unfolding cut_hint put
returns-then-cut-ne0 c = rw (ne_eqb _ _ c.if-cut-ne0.true) c.put_bytes.ensures

pub returns-then-atoms-eq0 : goal.returns-then-atoms-eq0
unfolding cut_hint put
returns-then-atoms-eq0 c = rw (eq-eqb _ _ c.if-cut-ne0.false, eq-eqb _ _ c.if-atoms-eq0.true) (refl)

pub returns-then-ends-ne0 : goal.returns-then-ends-ne0
unfolding cut_hint put
returns-then-ends-ne0 c = rw (eq-eqb _ _ c.if-cut-ne0.false, ne_eqb _ _ c.if-atoms-eq0.false, ne_eqb _ _ c.if-ends-ne0.true) (refl)

pub returns : goal.returns
unfolding cut_hint put
returns c = rw (eq-eqb _ _ c.if-cut-ne0.false, ne_eqb _ _ c.if-atoms-eq0.false, eq-eqb _ _ c.if-ends-ne0.false) c.put_bytes-2.ensures
