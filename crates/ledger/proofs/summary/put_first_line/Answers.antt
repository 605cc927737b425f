-- `ledger::summary::put_first_line` meets its contract: the calls put its parts one behind the other.
-- Assumes nothing.
use Rattle.page.proofs.Laws.Page.{put_then}
use Rattle.ledger.specs.Summary.{first_line}
use Rattle.ledger.proofs.summary.put_first_line.Goals as goal

pub returns : goal.returns
unfolding first_line
returns c =
    put_then _ _ _ _ _ (put_then _ _ _ _ _ (put_then _ _ _ _ _ c.put_counted-verdict.ensures
    c.put_verdict-hints.ensures)
    c.put_hints-end.ensures)
    c.put_bytes.ensures
