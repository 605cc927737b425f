-- `ledger::summary::put_group_rows` meets its contract. The loop's invariant: with the rows that are left, the page is as all rows leave it.
-- Assumes nothing.
use Rattle.ledger.proofs.Laws.Rows.{groups-next, groups-end}
use borrow.Author.Rules.{rules}
use Rattle.ledger.proofs.summary.put_group_rows.Goals as goal

pub loop-g-preserved : goal.loop-g-preserved
loop-g-preserved c = (search rules, groups-next _ _ _ _ c.loop-g.invariant.1 _ c.loop-g-test.true c.put_group_row-next.ensures)

pub returns : goal.returns
returns c = groups-end _ _ _ _ c.loop-g.invariant.1 c.loop-g-test.false
