-- How the parts of a field are put, by the code's loops.
--     blanks-next, blanks-done     blanks, one by one
--     last_more, last_done         the last digits, from the last one on
--     pointed-none, pointed-some   a decimal, by whether it has places
--     right-full                   a text that fills its columns
--     Front, front, front-part     a text on bytes of our own, which is then handed on, whole or from a place on
--     fixed-short                  no decimal has more than 22 bytes
-- Assumes nothing.
use mathlib.Core.Path.{◌≡◌, refl, sym, ap, ◌∙◌}
use Prim.Native.Nat.{ℕ, zero, suc, ◌+◌, ◌-◌, ◌/◌, ◌%◌, ◌^◌, ◌≤◌, ◌<◌}
use native.Mathlib.Nat.{div-le_self}
use native.Mathlib.Omega.{arith}
use mathlib.Core.Bool.{Bool, true, false}
use mathlib.Core.List.{List, [], ◌∷◌, ◌++◌}
use Rattle.page.specs.Numerals.{decimal}
use Rattle.page.proofs.Laws.Decimal.{decimal-short}
use Rattle.cell.proofs.Laws.Text.{tail_of, tail-length, pointed-parts}
use lib.ListN.{length, take, drop, set, length-append}
use lib.Seq.{take_at, drop_at, take-add, length-take-le}
use Rattle.page.specs.Page.{Page, page, put}
use Rattle.page.proofs.Laws.Page.{put_step, put_count, put_front}
use Rattle.page.proofs.Laws.Lists.{gathered}
use Rattle.cell.specs.Text.{last_digits, pointed, behind_minus, fixed, blanks, right}

pub blanks-next : (k : ℕ) (p q e : Page) → 0 < k → q ≡ put p (32 ∷ []) → put p (blanks k) ≡ e → put q (blanks (k - 1)) ≡ e
unfolding blanks
blanks-next zero p q e some f h = absurd (omega arith)
blanks-next (suc k) p q e some f h = let z : suc k - 1 ≡ k = omega arith in rw z (put_step p q e (32 ∷ []) (blanks k) f h)

pub blanks-done : (k : ℕ) (p e : Page) → k ≤ 0 → put p (blanks k) ≡ e → p ≡ e
unfolding blanks put
blanks-done zero p e h f = f
blanks-done (suc k) p e h f = absurd (omega arith)

pub last_more : (l : List ℕ) (i k n : ℕ) → 0 < k → 0 < i → i ≤ length l
    → last_digits (k - 1) (n / 10) (drop (i - 1) (set l (i - 1) (48 + n % 10))) ≡ last_digits k n (drop i l)
unfolding last_digits
last_more l i zero n some some' fits = absurd (omega arith)
last_more l i (suc k) n some some' fits =
    let z : suc k - 1 ≡ k = omega arith in rw (z, gathered l i (48 + n % 10) some' fits) refl

pub last_done : (k n : ℕ) (t e : List ℕ) → k ≤ 0 → last_digits k n t ≡ e → t ≡ e
unfolding last_digits
last_done zero n t e h f = f
last_done (suc k) n t e h f = absurd (omega arith)

pub pointed-none : (q n : ℕ) → q ≡ 0 → decimal n ≡ pointed q n
unfolding pointed
pointed-none q n e = rw e refl

pub pointed-some : (q n : ℕ) → (q ≡ 0 → ⊥) → decimal (n / 10 ^ q) ++ 46 ∷ last_digits q n [] ≡ pointed q n
unfolding pointed
pointed-some zero n some = absurd (some refl)
pointed-some (suc q) n some = refl

pub right-full : (w : ℕ) (t : List ℕ) → w ≤ length t → right w t ≡ t
unfolding right blanks
right-full w t h = let z : w - length t ≡ 0 = omega arith in rw z refl

-- ---- a text that was put at the front of bytes that hold it, and then taken from there
pub record Front (new t : List ℕ) (n : ℕ) : Type 0 where
  pub room : n ≤ length new
  pub counted : n ≡ length (take n new)
  pub is : take n new ≡ t

pub front : (old new t : List ℕ) (n : ℕ) → length old < 2 ^ 64 → length t ≤ length old → page new n ≡ put (page old 0) t → Front new t n
front old new t n short fits e =
    let count : n ≡ length t = ap (λ (p : Page). p.at) e ∙ put_count old t (omega arith) in
    let bytes : new ≡ t ++ drop (length t) old = ap (λ (p : Page). p.bytes) e ∙ put_front old t short fits in
    let is : take n new ≡ t = rw (count, bytes) (take_at t (drop (length t) old) (length t) refl) in
    record {
      room = rw (bytes, count) (omega (arith, length-append t (drop (length t) old)));
      counted = count ∙ sym (ap length is);
      is = is;
    }

pub front-part : (new t : List ℕ) (n k : ℕ) → Front new t n → k ≤ n → take (n - k) (drop k new) ≡ drop k t
front-part new t n k f h =
    let parts : n ≡ k + (n - k) = omega arith in
    let whole : take n new ≡ take k new ++ take (n - k) (drop k new) = ap (λ (m : ℕ). take m new) parts ∙ take-add k (n - k) new in
    let kept : length (take k new) ≡ k = length-take-le k new (omega (arith, f.room)) in
    sym (rw (sym f.is ∙ whole) (drop_at (take k new) (take (n - k) (drop k new)) k kept))

-- ---- at most 22 bytes
pub fixed-short : (q : ℕ) (s : Bool) (n : ℕ) → q ≤ 9 → n < 10 ^ 10 → length (fixed q s n) ≤ 22
unfolding fixed
fixed-short q s n Q few = rw (pointed-parts q n) (go s)
  where
    front : length (decimal (n / 10 ^ q)) ≤ 10
    front = decimal-short (n / 10 ^ q) (omega (arith, div-le_self n (10 ^ q))) 10 (omega arith) (omega (arith, div-le_self n (10 ^ q)))

    whole : length (decimal (n / 10 ^ q) ++ tail_of q n) ≤ 21
    whole = omega (arith, length-append (decimal (n / 10 ^ q)) (tail_of q n), tail-length q n, front)

    go : (s : Bool) → length (behind_minus s (decimal (n / 10 ^ q) ++ tail_of q n)) ≤ 22
    go false = omega (arith, whole)
    go true = omega (arith, whole)
