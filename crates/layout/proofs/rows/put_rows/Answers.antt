-- `layout::rows::put_rows` meets its contract. The loop's invariant: with the rows that are left, the page is as all rows leave it.
-- Assumes nothing.
use native.Mathlib.Omega.{arith}
use Rattle.layout.specs.Row.{row_bytes}
use Rattle.layout.proofs.Laws.Each.{each_next, each-done}
use borrow.Author.Rules.{rules}
use Rattle.layout.proofs.rows.put_rows.Goals as goal

pub loop-row-preserved : goal.loop-row-preserved
loop-row-preserved c =
    let l = c.loop-row in
    (search rules, each_next (row_bytes _) c.args.rows l.row-index _ _ _ _ (omega arith) c.put_row-next.ensures l.invariant.1)

pub returns : goal.returns
returns c = let l = c.loop-row in each-done (row_bytes _) c.args.rows l.row-index _ _ (omega arith) l.invariant.1
