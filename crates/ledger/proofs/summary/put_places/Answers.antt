-- `ledger::summary::put_places` meets its contract: by whether it is one.
-- Assumes nothing.
use borrow.Author.Tests.{eq-eqb, ne_eqb}
use Rattle.page.proofs.Laws.Page.{put_then}
use Rattle.ledger.specs.Summary.{places}
use Rattle.ledger.proofs.summary.put_places.Goals as goal

pub returns-then-n-eq1 : goal.returns-then-n-eq1
unfolding places
returns-then-n-eq1 c =
    rw (eq-eqb _ _ c.if-n-eq1.true) (put_then _ _ _ _ _ c.put_bytes-one.ensures
    c.put_unsigned.ensures)

pub returns : goal.returns
unfolding places
returns c =
    rw (ne_eqb _ _ c.if-n-eq1.false) (put_then _ _ _ _ _ (put_then _ _ _ _ _ (put_then _ _ _ _ _ (put_then _ _ _ _ _ (put_then _ _ _ _ _ c.put_bytes-colon.ensures
    c.put_unsigned-count.ensures)
    c.put_bytes-from.ensures)
    c.put_unsigned-number.ensures)
    c.put_bytes-to.ensures)
    c.put_unsigned-2.ensures)
