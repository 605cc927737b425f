-- `line::text::within` meets its contract: past the line's end only no bytes at all could be taken.
-- Assumes nothing.
use Rattle.std.proofs.Common.{◌≡◌, ℕ, ◌+◌, ◌-◌, ◌≤◌, refl, ap, ◌∙◌, Bool, true, false, cond, List, [], length, take, drop, leb, arith}
use borrow.Author.Tests.{lt-leb, leb-false}
use lib.ListN.{length-drop}
use Rattle.line.specs.Columns.{rest_of}
use Rattle.line.specs.Text.{within_of}
use Rattle.line.proofs.Laws.Parts.{part-or}
use Rattle.line.proofs.text.within.Goals as goal

taken : (l : List ℕ) (p n : ℕ) → n ≤ length l - p → take (n - 0) (drop p l) ≡ cond (leb (p + n) (length l)) (take n (drop p l)) []
taken l p n h = let z : n - 0 ≡ n = omega arith in rw z (go (leb (p + n) (length l)) refl)
  where
    go : (b : Bool) → leb (p + n) (length l) ≡ b → take n (drop p l) ≡ cond b (take n (drop p l)) []
    go true e = refl
    go false e = let k = leb-false (p + n) (length l) e in let z : n ≡ 0 = omega arith in rw z refl

pub returns : goal.returns
unfolding rest_of within_of
returns c =
    let l = c.args.line.now in
    let p = c.args.place in
    let n = c.args.length in
    let e = c.from_column.ensures in
    let long : length c.from_column.result.now ≡ length l - p = ap length e ∙ simp length-drop refl in
    rw c.unwrap_or.ensures
    (part-or (λ t. t ≡ within_of l p n) c.from_column.result.now 0 n _ _ c.get.ensures.lookup
    (λ h. rw (lt-leb (p + n) (length l) (omega (arith, h))) refl)
    (λ h k. rw e (taken l p n (omega arith))))
