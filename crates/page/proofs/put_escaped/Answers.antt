-- `page::put_escaped` meets its contract. The loop's invariant: with the rest of the text escaped, the page is as the whole text leaves it.
-- Assumes nothing.
use native.Mathlib.Omega.{arith}
use Rattle.page.proofs.Laws.Escaped.{escaped-next, escaped-done}
use borrow.Author.Rules.{rules}
use Rattle.page.proofs.put_escaped.Goals as goal

pub loop-b-preserved : goal.loop-b-preserved
loop-b-preserved c =
    let l = c.loop-b in
    let t = c.args.text.now in
    (search rules, escaped-next t l.b-index _ _ _ (omega arith) c.put_shown-next.ensures l.invariant.1)

pub returns : goal.returns
returns c = let l = c.loop-b in escaped-done c.args.text.now l.b-index _ _ (omega arith) l.invariant.1
