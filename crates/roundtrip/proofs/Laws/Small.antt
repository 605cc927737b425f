-- A number whose digits fit a few columns is small: the columns bound it, so a line asks no bound besides.
--     fitting-le       a text that fits is no longer than its columns
--     decimal-few      as many digits as columns
--     decimal-small, signed-small     within 64 bits, in eighteen columns and less
-- Assumes nothing.
use mathlib.Core.Path.{◌≡◌, refl}
use Prim.Native.Nat.{ℕ, zero, suc, ◌+◌, ◌/◌, ◌%◌, ◌^◌, ◌≤◌, ◌<◌}
use native.Mathlib.Nat.{one-le-pow, zero-lt-suc, pow-suc, le_trans}
use native.Mathlib.Omega.{arith}
use borrow.Author.Tests.{ltb-true, leb-true}
use mathlib.Core.Bool.{Bool, true, false, cond}
use mathlib.Core.List.{List, [], ◌∷◌}
use lib.ListN.{length}
use lib.Dec.{ltb}
use lib.IntN.{ℤ, pos, negsuc, nat_abs}
use Rattle.page.specs.Numerals.{decimal_before, decimal, signed_decimal}
use Rattle.cell.specs.Cell.{fitting}

pub fitting-le : (w : ℕ) (t : List ℕ) → fitting w t ≡ true → length t ≤ w
unfolding fitting
fitting-le w t e = leb-true (length t) w e

digits_more : (k n : ℕ) (t : List ℕ) → length t ≤ length (decimal_before k n t)
unfolding decimal_before
digits_more zero n t = omega arith
digits_more (suc k) n t = go (ltb n 10) (digits_more k (n / 10) ((48 + n % 10) ∷ t))
  where
    go : (b : Bool) → suc (length t) ≤ length (decimal_before k (n / 10) ((48 + n % 10) ∷ t))
        → length t ≤ length (cond b ((48 + n) ∷ t) (decimal_before k (n / 10) ((48 + n % 10) ∷ t)))
    go true h = omega arith
    go false h = omega arith

digits-few : (k n : ℕ) (t : List ℕ) (w : ℕ) → length (decimal_before k n t) ≤ length t + w → w < k → n < 10 ^ w
unfolding decimal_before
digits-few zero n t w h l = absurd (omega arith)
digits-few (suc k) n t w h l = go w (ltb n 10) refl h l (digits_more k (n / 10) ((48 + n % 10) ∷ t)) (digits-few k (n / 10) ((48 + n % 10) ∷ t))
  where
    go : (w : ℕ) (b : Bool) → ltb n 10 ≡ b → length (cond b ((48 + n) ∷ t) (decimal_before k (n / 10) ((48 + n % 10) ∷ t))) ≤ length t + w → w < suc k
        → suc (length t) ≤ length (decimal_before k (n / 10) ((48 + n % 10) ∷ t))
        → ((w : ℕ) → length (decimal_before k (n / 10) ((48 + n % 10) ∷ t)) ≤ suc (length t) + w → w < k → n / 10 < 10 ^ w) → n < 10 ^ w
    go zero true e h l some more = absurd (omega arith)
    go zero false e h l some more = absurd (omega arith)
    go (suc w) true e h l some more =
        rw (pow-suc 10 w) (omega (arith, ltb-true n 10 e, one-le-pow w 10 (zero-lt-suc 9)))
    go (suc w) false e h l some more = rw (pow-suc 10 w) (omega (arith, more w (omega arith) (omega arith)))

pub decimal-few : (n w : ℕ) → length (decimal n) ≤ w → w < 20 → n < 10 ^ w
unfolding decimal
decimal-few n w h l = digits-few 20 n [] w (omega arith) l

pub decimal-small : (w n : ℕ) → fitting w (decimal n) ≡ true → w ≤ 18 → n < 2 ^ 63
decimal-small w n e few = omega (arith, decimal-few n 18 (le_trans (fitting-le w (decimal n) e) few) (omega arith))

pub signed-small : (w : ℕ) (z : ℤ) → fitting w (signed_decimal z) ≡ true → w ≤ 18 → nat_abs z < 2 ^ 63
unfolding signed_decimal
signed-small w z e few = go z (fitting-le w (signed_decimal z) e)
  where
    go : (z : ℤ) → length (signed_decimal z) ≤ w → nat_abs z < 2 ^ 63
    go (pos n) h = omega (arith, decimal-few n 18 (omega arith) (omega arith))
    go (negsuc n) h = omega (arith, decimal-few (suc n) 18 (omega arith) (omega arith))
