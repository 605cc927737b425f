-- `ledger::summary::put_hints` meets its contract: the calls put its parts one behind the other.
-- Assumes nothing.
use Rattle.page.proofs.Laws.Page.{put_then}
use Rattle.ledger.specs.Summary.{hints}
use Rattle.ledger.proofs.summary.put_hints.Goals as goal

pub returns : goal.returns
unfolding hints
returns c =
    put_then _ _ _ _ _ (put_then _ _ _ _ _ c.put_cut_hint-off.ensures
    c.put_off_hint-cr.ensures)
    c.put_cr_hint.ensures
