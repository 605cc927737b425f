-- What a double's bits say of it in so many places.
-- Assumes nothing.
use mathlib.Core.Path.{◌≡◌, refl, sym, ap, ◌∙◌}
use Prim.Native.Nat.{ℕ, zero, suc, ◌+◌, ◌-◌, ◌*◌, ◌/◌, ◌%◌, ◌^◌, ◌≤◌, ◌<◌, compare}
use native.Mathlib.Nat.{le_trans, le_of_lt, lt_of_le_of_lt, mod-lt, mul_assoc, mul_comm, mul_left_comm, mul-le-mul_left, mul-le-mul_right, le-mul_of_pos_right, le-div_iff_mul-le, zero-lt-suc, one-le-pow, pow-le-pow_right, pow-succ'}
use native.Mathlib.Omega.{arith}
use borrow.Author.Tests.{le-ltb, ne_eqb}
use mathlib.Core.Bool.{Bool, true, false, not, cond}
use lib.Dec.{T, leb, eqb, lit≤, lit<}
use lib.Pow.{pow-add, pow_pos, pow_mono, shl_lt}
use lib.Ieee.{Float, nan, inf, fin, binary64, odd, of_fields, of_bits, to_bits, fits, is_nan, ne}
use lib.Ieee.Bits.{of_bits-to_bits}
use lib.Ieee.Compare.{differs_from_itself, nan_differs}
use lib.Ieee.Exact.{HasValue, odd_sign}
use lib.Ieee.Nearest.{closest, closest_same, nearest-ge}
use Rattle.std.specs.Prelude.{Some, None}
use Rattle.real.specs.Near.{apart}
use Rattle.cell.specs.Places.{rounded, within, rounded_to}
use Rattle.cell.proofs.Laws.Closest.{closest_is}
use Rattle.cell.proofs.Laws.Places.{places-value, within-few}

-- ---- numbers alone: m 2 ^ y 10 ^ q over 2 ^ l
ten_is : (q : ℕ) → 10 ^ q ≡ 5 ^ q * 2 ^ q
ten_is zero = refl
ten_is (suc q) = rw (pow-succ' 10 q, pow-succ' 5 q, pow-succ' 2 q, ten_is q) (omega (arith, mul_assoc 5 (5 ^ q) (2 * 2 ^ q), mul_left_comm (5 ^ q) 2 (2 ^ q)))

same_scale : (m y q j l : ℕ) → y + q + j ≡ l → m * 2 ^ y * 10 ^ q * 2 ^ j ≡ m * 5 ^ q * 2 ^ l
same_scale m y q j l e = rw (← e, ten_is q) (simp (pow-add, mul_assoc, mul_comm, mul_left_comm))

large-scale : (m y q a b l : ℕ) → 2 ^ b ≤ m → a + l ≤ b + y + q → 2 ^ a * 2 ^ l ≤ m * 2 ^ y * 10 ^ q
large-scale m y q a b l M h =
    let one : 2 ^ a * 2 ^ l ≤ 2 ^ b * 2 ^ y * 2 ^ q = rw (← pow-add 2 a l, ← pow-add 2 b y, ← pow-add 2 (b + y) q) (pow_mono h) in
    let two : 2 ^ b * 2 ^ y * 2 ^ q ≤ m * 2 ^ y * 2 ^ q = mul-le-mul_right (2 ^ q) (mul-le-mul_right (2 ^ y) M) in
    let three : 2 ^ q ≤ 10 ^ q = rw (ten_is q, mul_comm (5 ^ q) (2 ^ q)) (le-mul_of_pos_right (2 ^ q) (one-le-pow q 5 (zero-lt-suc 4))) in
    le_trans one (le_trans two (mul-le-mul_left (m * 2 ^ y) three))

pub five_small : (q : ℕ) → q ≤ 9 → 5 ^ q < 2 ^ 21
five_small q h = lt_of_le_of_lt (pow-le-pow_right (zero-lt-suc 4) h) (lit< tt)

product_small : (m q : ℕ) → m < 2 ^ 53 → q ≤ 9 → m * 5 ^ q < 2 ^ 74
product_small m q M h = lt_of_le_of_lt (mul-le-mul_left m (le_of_lt (five_small q h))) (shl_lt 53 21 M)

small-scale : (m y q a l : ℕ) → m * 5 ^ q < 2 ^ a → a + (y + q) + 1 ≤ l → m * 2 ^ y * 10 ^ q * 2 < 2 ^ l
small-scale m y q a l M h =
    let one : m * 2 ^ y * 10 ^ q ≡ m * 5 ^ q * 2 ^ (y + q) = rw (ten_is q) (simp (pow-add, mul_assoc, mul_comm, mul_left_comm)) in
    let two = shl_lt {a = m * 5 ^ q} a (y + q) M in
    let three = pow-add 2 (a + (y + q)) 1 in
    let four : 2 ^ (a + (y + q) + 1) ≤ 2 ^ l = pow_mono h in
    omega arith

zero-off : (n u : ℕ) → n * 2 < u → apart (0 * u) n * 2 < u
zero-off n u h = omega arith

-- ---- a double that is m 2 ^ y over 2 ^ 1074
pub within-many : (s : Bool) (n : ℕ) → 10 ^ 10 ≤ n → within s n ≡ None
unfolding within
within-many s n h = rw (le-ltb n (10 ^ 10) h) refl

many : (n u : ℕ) → 0 < u → 2 ^ 36 * u ≤ n → 10 ^ 10 ≤ closest n u
many n u U h =
    let whole : 2 ^ 36 ≤ n / u = (le-div_iff_mul-le U).1 h in
    le_trans (le_trans (lit≤ tt) whole) (nearest-ge (n / u) (compare (n % u * 2) u))

module _ (q : ℕ) (x : Float) (s : Bool) (m y : ℕ) (v : HasValue x s (m * 2 ^ y) (2 ^ 1074)) where
  as_units : rounded_to q x ≡ within s (closest (m * 2 ^ y * 10 ^ q) (2 ^ 1074))
  as_units = places-value q x s (m * 2 ^ y) (2 ^ 1074) (pow_pos 1074) v

  value-large : 2 ^ 52 ≤ m → 1058 ≤ y + q → rounded_to q x ≡ None
  value-large M h =
      as_units ∙ within-many s (closest (m * 2 ^ y * 10 ^ q) (2 ^ 1074))
      (many (m * 2 ^ y * 10 ^ q) (2 ^ 1074) (pow_pos 1074) (large-scale m y q 36 52 1074 M (omega arith)))

  value-small : m < 2 ^ 53 → q ≤ 9 → y + q ≤ 999 → rounded_to q x ≡ Some (rounded s 0)
  value-small M h k =
      let n = m * 2 ^ y * 10 ^ q in
      let few = small-scale m y q 74 1074 (product_small m q M h) (omega arith) in
      as_units ∙ ap (within s) (closest_is n (2 ^ 1074) 0 (pow_pos 1074) (zero-off n (2 ^ 1074) few)) ∙ within-few s 0 (lit< tt)

  value_middle : (j : ℕ) → y + q + j ≡ 1074 → rounded_to q x ≡ within s (closest (m * 5 ^ q) (2 ^ j))
  value_middle j e =
      as_units
      ∙ ap (within s) (closest_same (m * 2 ^ y * 10 ^ q) (2 ^ 1074) (m * 5 ^ q) (2 ^ j) (pow_pos 1074) (pow_pos j) (same_scale m y q j 1074 e))

-- ---- by the fields of its bits
no_number : (q : ℕ) (s : Bool) (b : Bool) → rounded_to q (cond b (inf s) nan) ≡ None
unfolding rounded_to
no_number q s true = refl
no_number q s false = refl

fields-large : (q : ℕ) (s : Bool) (x t : ℕ) → q ≤ 9 → 1075 - q ≤ x + 16 → rounded_to q (of_fields binary64 s x t) ≡ None
unfolding of_fields
fields-large q s zero t Q h = absurd (omega arith)
fields-large q s (suc y) t Q h = go (eqb (suc y) 2047)
  where
    go : (b : Bool) → rounded_to q (cond b (cond (eqb t 0) (inf s) nan) (odd 53 s (2 ^ 52 + t) y 1074)) ≡ None
    go true = no_number q s (eqb t 0)
    go false = value-large q (odd 53 s (2 ^ 52 + t) y 1074) s (2 ^ 52 + t) y (odd_sign 53 s (2 ^ 52 + t) y 1074) (omega arith) (omega arith)

fields_value : (s : Bool) (y t : ℕ) → suc y < 2047 → HasValue (of_fields binary64 s (suc y) t) s ((2 ^ 52 + t) * 2 ^ y) (2 ^ 1074)
unfolding of_fields
fields_value s y t h = rw (ne_eqb (suc y) 2047 (omega arith)) (odd_sign 53 s (2 ^ 52 + t) y 1074)

fields-small : (q : ℕ) (s : Bool) (x t : ℕ) → q ≤ 9 → t < 2 ^ 52 → x + 80 ≤ 1075 - q → rounded_to q (of_fields binary64 s x t) ≡ Some (rounded s 0)
unfolding of_fields
fields-small q s zero t Q T h = value-small q (odd 53 s t 0 1074) s t 0 (odd_sign 53 s t 0 1074) (omega arith) Q (omega arith)
fields-small q s (suc y) t Q T h =
    value-small q (of_fields binary64 s (suc y) t) s (2 ^ 52 + t) y (fields_value s y t (omega arith)) (omega arith) Q (omega arith)

fields_middle : (q : ℕ) (s : Bool) (x t : ℕ) → q ≤ 9 → x + 16 < 1075 - q → 1075 - q < x + 80
    → rounded_to q (of_fields binary64 s x t) ≡ within s (closest ((2 ^ 52 + t) * 5 ^ q) (2 ^ (1075 - q - x)))
fields_middle q s zero t Q h k = absurd (omega arith)
fields_middle q s (suc y) t Q h k =
    value_middle q (of_fields binary64 s (suc y) t) s (2 ^ 52 + t) y (fields_value s y t (omega arith)) (1075 - q - suc y) (omega arith)

-- ---- by its bits
module _ (q : ℕ) (x : Float) (fit : T (fits binary64 x)) (Q : q ≤ 9) where
  bits_are : rounded_to q x
      ≡ rounded_to q (of_fields binary64 (leb (2 ^ 63) (to_bits binary64 x)) (to_bits binary64 x % 2 ^ 63 / 2 ^ 52) (to_bits binary64 x % 2 ^ 52))
  unfolding of_bits
  bits_are = ap (rounded_to q) (sym (of_bits-to_bits binary64 x fit))

  pub bits_large : 1075 - q ≤ to_bits binary64 x % 2 ^ 63 / 2 ^ 52 + 16 → None ≡ rounded_to q x
  bits_large h = sym (bits_are ∙ fields-large q _ _ _ Q h)

  pub bits_small : to_bits binary64 x % 2 ^ 63 / 2 ^ 52 + 80 ≤ 1075 - q → Some (rounded (leb (2 ^ 63) (to_bits binary64 x)) 0) ≡ rounded_to q x
  bits_small h = sym (bits_are ∙ fields-small q _ _ _ Q (mod-lt (to_bits binary64 x) (pow_pos 52)) h)

  pub bits_middle : to_bits binary64 x % 2 ^ 63 / 2 ^ 52 + 16 < 1075 - q → 1075 - q < to_bits binary64 x % 2 ^ 63 / 2 ^ 52 + 80
      → within (leb (2 ^ 63) (to_bits binary64 x))
      (closest ((2 ^ 52 + to_bits binary64 x % 2 ^ 52) * 5 ^ q) (2 ^ (1075 - q - to_bits binary64 x % 2 ^ 63 / 2 ^ 52))) ≡ rounded_to q x
  bits_middle h k = sym (bits_are ∙ fields_middle q _ _ _ Q h k)

-- ---- a NaN
pub nan_none : (q : ℕ) (x : Float) → ne x x ≡ true → None ≡ rounded_to q x
unfolding rounded_to
nan_none q x h = rw (differs_from_itself x (rw h tt)) refl

pub no_nan : (x : Float) → ne x x ≡ false → T (not (is_nan x))
unfolding is_nan
no_nan nan h = absurd (let z : ◌≡◌ {A = ℕ} 0 1 = cc nan_differs in omega arith)
no_nan (inf s) h = tt
no_nan (fin s m e) h = tt
