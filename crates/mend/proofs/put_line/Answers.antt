-- `mend::put_line` meets its contract. The loop's invariant: with the rest of the line, the bytes are as the whole line leaves them.
-- Assumes nothing.
use borrow.Author.Rules.{rules}
use Rattle.mend.proofs.Laws.Steps.{line-next, line-done}
use Rattle.mend.proofs.put_line.Goals as goal

pub loop-i-preserved : goal.loop-i-preserved
loop-i-preserved c =
    let l = c.loop-i in
    (search rules, line-next _ _ _ l.i l.invariant.1 c.loop-i-test.true _ c.mended_byte.ensures)

pub returns : goal.returns
returns c = line-done _ _ _ _ c.loop-i.invariant.1 c.loop-i-test.false
