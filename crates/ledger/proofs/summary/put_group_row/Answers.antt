-- `ledger::summary::put_group_row` meets its contract: by whether there are any.
-- Assumes nothing.
use mathlib.Core.Path.{refl}
use borrow.Author.Tests.{eq-eqb, ne_eqb}
use Rattle.page.proofs.Laws.Page.{put_then}
use Rattle.page.specs.Page.{put}
use Rattle.ledger.specs.Summary.{group_row}
use Rattle.ledger.proofs.summary.put_group_row.Goals as goal

pub returns-then-n-eq0 : goal.returns-then-n-eq0
unfolding group_row put
returns-then-n-eq0 c = rw (eq-eqb _ _ c.if-n-eq0.true) (refl)

pub returns : goal.returns
unfolding group_row
returns c =
    rw (ne_eqb _ _ c.if-n-eq0.false) (put_then _ _ _ _ _ (put_then _ _ _ _ _ (put_then _ _ _ _ _ c.put_bytes-name.ensures
    c.put_group-colon.ensures)
    c.put_places-end.ensures)
    c.put_bytes.ensures)
