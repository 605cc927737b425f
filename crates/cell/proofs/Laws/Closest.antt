-- The nearest whole number to a fraction, a tie to the even one.
--     closest_is                           what is less than half a unit off is the nearest
--     closest-below, closest-tie, closest-above    the nearest number by the quotient and what is left
-- Assumes nothing.
use mathlib.Core.Path.{◌≡◌, refl, ap, ◌∙◌}
use Prim.Native.Nat.{ℕ, suc, ◌+◌, ◌*◌, ◌/◌, ◌%◌, ◌≤◌, ◌<◌, compare, Ordering}
use native.Mathlib.Nat.{le_antisymm, le_of_suc-le-suc, lt_of_not-le, suc-mul, mul_assoc, mul_right_comm, add-mul, mul-le-mul_right, div-add-mod', mod-lt}
use native.Mathlib.Omega.{arith}
use mathlib.Core.Bool.{not}
use lib.Dec.{T, is_le, compare_is_eq, leb→le, nleb→lt, eqb→eq, eqb_refl}
use lib.Arith.{digits_div, digits_mod, digits_lt}
use lib.Ieee.{nearest}
use lib.Ieee.Nearest.{closest}
use Rattle.real.specs.Near.{apart}
use Rattle.real.proofs.Laws.Halves.{closest_half}

-- ---- by the distance
less-apart : (c k u n : ℕ) → c < k → apart (c * u) n * 2 ≤ u → apart (k * u) n * 2 < u → ⊥
less-apart c k u n l h g = omega (arith, mul-le-mul_right u l, suc-mul c u)

more-apart : (c k u n : ℕ) → k < c → apart (c * u) n * 2 ≤ u → apart (k * u) n * 2 < u → ⊥
more-apart c k u n l h g = omega (arith, mul-le-mul_right u l, suc-mul k u)

pub closest_is : (n u k : ℕ) → 0 < u → apart (k * u) n * 2 < u → closest n u ≡ k
closest_is n u k U near =
    let c = closest n u in
    let half = closest_half n u U in
    le_antisymm
    (le_of_suc-le-suc (lt_of_not-le (λ (g : suc k ≤ c). more-apart c k u n g half near)))
    (le_of_suc-le-suc (lt_of_not-le (λ (g : suc c ≤ k). less-apart c k u n g half near)))

-- ---- by the quotient w and what is left, r
module _ (w : ℕ) (a b : ℕ) where
  by_below : a < b → nearest w (compare a b) ≡ w
  by_below h = go (compare a b) (nleb→lt a b) (eqb→eq a b)
    where
      go : (o : Ordering) → (T (not (is_le o)) → b < a) → (T (compare_is_eq o) → a ≡ b) → nearest w o ≡ w
      go Ordering.lt gt eq = refl
      go Ordering.eq gt eq = absurd (omega (arith, eq tt))
      go Ordering.gt gt eq = absurd (omega (arith, gt tt))

  by_above : b < a → nearest w (compare a b) ≡ suc w
  by_above h = go (compare a b) (leb→le a b)
    where
      go : (o : Ordering) → (T (is_le o) → a ≤ b) → nearest w o ≡ suc w
      go Ordering.lt le = absurd (omega (arith, le tt))
      go Ordering.eq le = absurd (omega (arith, le tt))
      go Ordering.gt le = refl

  by_same : a ≡ b → nearest w (compare a b) ≡ w + w % 2
  by_same h = rw (← h) (go (compare a a) (eqb_refl a))
    where
      go : (o : Ordering) → T (compare_is_eq o) → nearest w o ≡ w + w % 2
      go Ordering.lt eq = absurd eq
      go Ordering.eq eq = refl
      go Ordering.gt eq = absurd eq

-- n = w u + r
split-is : (n u w r : ℕ) → w * u + r ≡ n → r < u → closest n u ≡ nearest w (compare (r * 2) u)
split-is n u w r e h = rw (← e, digits_div w h, digits_mod w h) refl

-- ---- n = a c + b, with a as w units of 2 h and r more: the nearest whole number of such units is found by r, and by b only where r is h
module _ (a b c h : ℕ) (few : b < c) (some : 0 < h) where
  split : a / (h * 2) * (h * 2 * c) + (a % (h * 2) * c + b) ≡ a * c + b
  split =
      let x = ap (λ (z : ℕ). z * c) (div-add-mod' a (h * 2)) in
      let y = add-mul (a / (h * 2) * (h * 2)) (a % (h * 2)) c in
      let z = mul_assoc (a / (h * 2)) (h * 2) c in
      omega arith

  rest : a % (h * 2) * c + b < h * 2 * c
  rest = digits_lt (mod-lt a (omega arith)) few

  by_split : closest (a * c + b) (h * 2 * c) ≡ nearest (a / (h * 2)) (compare ((a % (h * 2) * c + b) * 2) (h * 2 * c))
  by_split = split-is (a * c + b) (h * 2 * c) (a / (h * 2)) (a % (h * 2) * c + b) split rest

  pub limbs_below : a % (h * 2) < h → closest (a * c + b) (h * 2 * c) ≡ a / (h * 2)
  limbs_below l =
      let r = a % (h * 2) in
      by_split ∙ by_below (a / (h * 2)) ((r * c + b) * 2) (h * 2 * c)
      (omega (arith, mul-le-mul_right c l, suc-mul r c, mul_right_comm h 2 c))

  pub limbs_above : h < a % (h * 2) → closest (a * c + b) (h * 2 * c) ≡ suc (a / (h * 2))
  limbs_above l =
      let r = a % (h * 2) in
      by_split ∙ by_above (a / (h * 2)) ((r * c + b) * 2) (h * 2 * c)
      (omega (arith, mul-le-mul_right c l, suc-mul h c, mul_right_comm h 2 c))

  pub limbs_more : a % (h * 2) ≡ h → 0 < b → closest (a * c + b) (h * 2 * c) ≡ suc (a / (h * 2))
  limbs_more e l =
      let r = a % (h * 2) in
      let same : r * c ≡ h * c = ap (λ (z : ℕ). z * c) e in
      by_split ∙ by_above (a / (h * 2)) ((r * c + b) * 2) (h * 2 * c) (omega (arith, mul_right_comm h 2 c))

  pub limbs_tie : a % (h * 2) ≡ h → b ≡ 0 → closest (a * c + b) (h * 2 * c) ≡ a / (h * 2) + a / (h * 2) % 2
  limbs_tie e l =
      let r = a % (h * 2) in
      let same : r * c ≡ h * c = ap (λ (z : ℕ). z * c) e in
      by_split ∙ by_same (a / (h * 2)) ((r * c + b) * 2) (h * 2 * c) (omega (arith, mul_right_comm h 2 c))
