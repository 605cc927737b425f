-- `page::put_bytes` meets its contract. The loop's invariant: with the rest of the text, the page is as the whole text leaves it.
-- Assumes nothing.
use native.Mathlib.Omega.{arith}
use Rattle.page.proofs.Laws.Page.{put_next, put-done}
use borrow.Author.Rules.{rules}
use Rattle.page.proofs.put_bytes.Goals as goal

pub loop-b-preserved : goal.loop-b-preserved
loop-b-preserved c =
    let l = c.loop-b in
    let t = c.args.text.now in
    (search rules, put_next t l.b-index _ _ _ (omega arith) c.put_byte-next.ensures l.invariant.1)

pub returns : goal.returns
returns c = let l = c.loop-b in put-done c.args.text.now l.b-index _ _ (omega arith) l.invariant.1
