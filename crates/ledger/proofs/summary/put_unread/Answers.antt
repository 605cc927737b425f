-- `ledger::summary::put_unread` meets its contract: the calls put its parts one behind the other.
-- Assumes nothing.
use Rattle.page.proofs.Laws.Page.{put_then}
use Rattle.ledger.specs.Summary.{unread}
use Rattle.ledger.proofs.summary.put_unread.Goals as goal

pub returns : goal.returns
unfolding unread
returns c =
    put_then _ _ _ _ _ (put_then _ _ _ _ _ (put_then _ _ _ _ _ c.put_counted-blank.ensures
    c.put_bytes-next.ensures)
    c.put_counted-last.ensures)
    c.put_bytes.ensures
