-- `ledger::summary::put_summary` meets its contract: by whether there is a line.
-- Assumes nothing.
use borrow.Author.Tests.{eq-eqb, ne_eqb}
use Rattle.page.proofs.Laws.Page.{put_then}
use Rattle.ledger.specs.Summary.{summary}
use Rattle.ledger.proofs.summary.put_summary.Goals as goal

pub returns-then-ledger-eq0 : goal.returns-then-ledger-eq0
unfolding summary
returns-then-ledger-eq0 c = rw (eq-eqb _ _ c.if-ledger-eq0.true) c.put_bytes.ensures

pub returns : goal.returns
unfolding summary
returns c =
    rw (ne_eqb _ _ c.if-ledger-eq0.false) (put_then _ _ _ _ _ c.put_first_line-groups.ensures
    c.put_group_rows.ensures)
