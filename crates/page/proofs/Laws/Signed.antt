-- Laws of decimal digits behind a sign, for numbers within 64 bits.
--     signed-length                   from 1 to 20 bytes
--     signed_no-feed                  no LF among them
--     signed-tells                    different numbers have different bytes
--     signed-minus, signed-plus       a number below zero and one that isn't, by the code's puts
-- Assumes nothing.
use Prim.Native.Nat.{ℕ, suc, ◌^◌, ◌≤◌, ◌<◌}
use mathlib.Core.Path.{◌≡◌, refl, sym, ap}
use mathlib.Core.Bool.{true, false}
use mathlib.Core.Logic.{⊎_elim}
use mathlib.Core.List.Memᴰ
use mathlib.Core.List.{List, [], ◌∷◌, Memᴰ}
use native.Mathlib.Omega.{arith}
use borrow.Author.Tests.{ltb-true}
use lib.ListN.{length}
use lib.IntN.{ℤ, pos, negsuc, nat_abs}
use lib.Signed.{lt_z}
use Rattle.page.specs.Page.{Page, put}
use Rattle.page.specs.Numerals.{decimal, signed_decimal}
use Rattle.page.proofs.Laws.Page.{put_then}
use Rattle.page.proofs.Laws.Decimal.{decimal-length, decimal-short, decimal-digits, decimal_no_feed, decimal-tells}

minus : (z : ℤ) → lt_z z (pos 0) ≡ true → signed_decimal z ≡ 45 ∷ decimal (nat_abs z)
unfolding signed_decimal
minus (pos n) h = absurd (omega (arith, ltb-true n 0 h))
minus (negsuc n) h = refl

plus : (z : ℤ) → lt_z z (pos 0) ≡ false → signed_decimal z ≡ decimal (nat_abs z)
unfolding signed_decimal
plus (pos n) h = refl
plus (negsuc n) h = let e : ◌≡◌ {A = ℕ} 0 1 = cc in absurd (omega arith)

-- digits don't begin with a `-`
no_minus : (n : ℕ) (t : List ℕ) → n < 2 ^ 64 → decimal n ≡ 45 ∷ t → ⊥
no_minus n t h e = omega (arith, decimal-digits n h 45 (rw e (Memᴰ.head refl)))

pub signed-length : (z : ℤ) → nat_abs z ≤ 2 ^ 63 → (1 ≤ length (signed_decimal z)) × (length (signed_decimal z) ≤ 20)
unfolding signed_decimal
signed-length (pos n) h = decimal-length n (omega arith)
signed-length (negsuc n) h = let k = decimal-short (suc n) (omega arith) 19 (omega arith) (omega arith) in (omega arith, omega arith)

pub signed_no-feed : (z : ℤ) → nat_abs z ≤ 2 ^ 63 → Memᴰ 10 (signed_decimal z) → ⊥
unfolding signed_decimal
signed_no-feed (pos n) h m = decimal_no_feed n (omega arith) m
signed_no-feed (negsuc n) h m = ⊎_elim (λ e. omega arith) (λ m. decimal_no_feed (suc n) (omega arith) m) (Memᴰ.cases_cons m)

pub signed-tells : (y z : ℤ) → nat_abs y ≤ 2 ^ 63 → nat_abs z ≤ 2 ^ 63 → signed_decimal y ≡ signed_decimal z → y ≡ z
unfolding signed_decimal
signed-tells (pos m) (pos n) f g e = ap pos (decimal-tells m n (omega arith) (omega arith) e)
signed-tells (pos m) (negsuc n) f g e = absurd (no_minus m (decimal (suc n)) (omega arith) e)
signed-tells (negsuc m) (pos n) f g e = absurd (no_minus n (decimal (suc m)) (omega arith) (sym e))
signed-tells (negsuc m) (negsuc n) f g e =
    let d : decimal (suc m) ≡ decimal (suc n) = cc in
    let s = decimal-tells (suc m) (suc n) (omega arith) (omega arith) d in
    ap negsuc (omega arith)

-- by the code's puts; y is the number as the machine reads it back
module _ (z y : ℤ) (m : ℕ) (p r : Page) (back : y ≡ z) (far : m ≡ nat_abs y) where
  pub signed-minus : (q : Page) → lt_z y (pos 0) ≡ true → q ≡ put p (45 ∷ []) → r ≡ put q (decimal m) → r ≡ put p (signed_decimal z)
  signed-minus q b e f = rw (minus z (rw back at b)) (put_then p q r (45 ∷ []) (decimal (nat_abs z)) e (rw (far, back) at f))

  pub signed-plus : lt_z y (pos 0) ≡ false → r ≡ put p (decimal m) → r ≡ put p (signed_decimal z)
  signed-plus b f = rw (plus z (rw back at b)) (rw (far, back) at f)
