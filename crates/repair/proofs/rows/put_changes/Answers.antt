-- `repair::rows::put_changes` meets its contract.
-- Assumes nothing.
use Rattle.repair.proofs.Laws.Rows.{rows_next, rows-done}
use borrow.Author.Rules.{rules}
use Rattle.repair.proofs.rows.put_changes.Goals as goal

pub loop-word-preserved : goal.loop-word-preserved
loop-word-preserved c =
    let l = c.loop-word in
    (search rules, rows_next _ l.word-index _ _ _ l.invariant.1 _ c.loop-word-test.true c.put_change-next.ensures)

pub returns : goal.returns
returns c = rows-done _ _ _ _ _ c.loop-word.invariant.1 c.loop-word-test.false
