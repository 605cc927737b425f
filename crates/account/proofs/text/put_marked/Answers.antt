-- `account::text::put_marked` meets its contract. The loop's invariant: with the rest of the text, the page is as the whole text leaves it.
-- Assumes nothing.
use Prim.Native.Nat.{ℕ}
use mathlib.Core.List.{[], ◌∷◌}
use borrow.Author.Rules.{rules}
use Rattle.layout.proofs.Laws.Each.{each_next, each-done}
use Rattle.account.specs.Account.{mark}
use Rattle.account.proofs.text.put_marked.Goals as goal

pub loop-b-preserved : goal.loop-b-preserved
loop-b-preserved c =
    let l = c.loop-b in
    let turned = rw c.mark.ensures at c.put_byte-next.ensures in
    (search rules, each_next (λ (b : ℕ). mark b ∷ []) _ l.b-index _ _ 0 _ c.loop-b-test.true turned l.invariant.1)

pub returns : goal.returns
returns c = each-done (λ (b : ℕ). mark b ∷ []) _ _ _ _ c.loop-b-test.false c.loop-b.invariant.1
