-- `round` gives the nearest double: no double that the format holds is nearer, and at a tie what it keeps is even.
-- Assumes nothing.
use mathlib.Core.Path.{◌≡◌, refl, sym, ◌∙◌}
use Prim.Native.Nat.{ℕ, zero, suc, ◌+◌, ◌-◌, ◌*◌, ◌/◌, ◌%◌, ◌^◌, ◌≤◌, ◌<◌, zero-le, compare, Ordering}
use native.Mathlib.Nat.{le_refl, le_antisymm, le_trans, le_of_eq, le_of_lt, lt_of_lt_of_le, lt_of_le_of_lt, mul_assoc, mul_comm, mul-pos, suc-mul, mod-lt, div-add-mod', mul-le-mul_right, le-div_iff_mul-le, mul-one, zero-lt-suc, zero-mul, eq_of_mul-eq-mul_right, not-le_of_lt}
use native.Mathlib.Omega.{arith}
use mathlib.Core.Bool.{Bool, true, false, not, ◌&&◌}
use lib.Dec.{T, is_le, compare_is_eq, eqb, ltb, ltb→lt, leb, leb→le, nleb→lt, eqb→eq}
use lib.Pow.{pow-add, pow_pos, pow_mono, pow-lt, shl_lt}
use lib.IntN.{ℤ, pos, negsuc}
use lib.Ieee.{Float, fin, binary64, low, up, down, nearest, size, fits, round}
use lib.Ieee.Exact.{HasValue, units_val}
use lib.Ieee.Scale.{grid, overflow}
use lib.Ieee.Digits.{size_reaches}
use lib.Ieee.Fits.{eq→eqb, and_l, and_r, round_is, down_pos}
use lib.Ieee.Nearest.{closest}
use lib.Ieee.Order.{drop, kept}
use Rattle.real.specs.Near.{apart}
use Rattle.real.specs.Nearest.{NearestDouble}
use Rattle.real.proofs.Laws.Halves.{closest_half}

-- ---- the closest multiple of u
-- x is half a unit off at most, and y a unit away from it, below or above
from-below : (x y n u : ℕ) → y + u ≤ x → apart x n * 2 ≤ u → apart x n ≤ apart y n
from-below x y n u h l = omega arith

from-above : (x y n u : ℕ) → x + u ≤ y → apart x n * 2 ≤ u → apart x n ≤ apart y n
from-above x y n u h l = omega arith

next_multiple : (j c u : ℕ) → j < c → j * u + u ≤ c * u
next_multiple j c u h = le_trans (le_of_eq (next j u)) (mul-le-mul_right u h)
  where
    next : (j u : ℕ) → j * u + u ≡ suc j * u
    next j u = omega (arith, suc-mul j u)

closest_nearest : (n u j : ℕ) → 0 < u → apart (closest n u * u) n ≤ apart (j * u) n
closest_nearest n u j U = go (closest n u) (closest_half n u U) (leb j (closest n u)) (leb (closest n u) j) (leb→le j (closest n u)) (nleb→lt j (closest n u)) (leb→le (closest n u) j) (nleb→lt (closest n u) j)
  where
    go : (c : ℕ) → apart (c * u) n * 2 ≤ u → (p q : Bool) → (T p → j ≤ c) → (T (not p) → c < j) → (T q → c ≤ j) → (T (not q) → j < c)
        → apart (c * u) n ≤ apart (j * u) n
    go c h true true le gt ge lt = rw (le_antisymm (le tt) (ge tt)) (le_refl (apart (c * u) n))
    go c h true false le gt ge lt = from-below (c * u) (j * u) n u (next_multiple j c u (lt tt)) h
    go c h false q le gt ge lt = from-above (c * u) (j * u) n u (next_multiple c j u (gt tt)) h

-- at a tie it is even
even-tie : (w : ℕ) → (w + w % 2) % 2 ≡ 0
even-tie w = omega arith

module _ (n u w r : ℕ) (split : w * u + r ≡ n) (rest : r < u) where
  nearest-even : (o : Ordering) → (T (is_le o) → r * 2 ≤ u) → (T (not (is_le o)) → u < r * 2) → (T (compare_is_eq o) → r * 2 ≡ u) → (r * 2 ≡ u → T (compare_is_eq o))
      → apart (nearest w o * u) n * 2 ≡ u → nearest w o % 2 ≡ 0
  nearest-even Ordering.lt le gt eq ne tie =
      let z : r * 2 ≡ u = omega arith in absurd (ne z)
  nearest-even Ordering.eq le gt eq ne tie = even-tie w
  nearest-even Ordering.gt le gt eq ne tie =
      let k = gt tt in absurd (omega (arith, suc-mul w u))

closest_even : (n u : ℕ) → 0 < u → apart (closest n u * u) n * 2 ≡ u → closest n u % 2 ≡ 0
closest_even n u U =
    let t = n % u * 2 in
    nearest-even n u (n / u) (n % u) (div-add-mod' n u) (mod-lt n U) (compare t u) (leb→le t u) (nleb→lt t u) (eqb→eq t u) (λ (e : t ≡ u). eq→eqb e)

-- ---- what `round` keeps of n / d units, of all that a format of h + 1 digits holds
-- y 2 ^ j with y below 2 ^ (h + 1)
module _ (h n d : ℕ) (D : 0 < d) where
  abbrev k : ℕ
  k = drop (suc h) n d

  abbrev v : ℕ
  v = kept (suc h) n d * 2 ^ k

  -- v d is the multiple of d 2 ^ k that is closest to n
  at_multiple : v * d ≡ kept (suc h) n d * (d * 2 ^ k)
  at_multiple = rw (mul_assoc (kept (suc h) n d) (2 ^ k) d, mul_comm (2 ^ k) d) refl

  of-unit : (y : ℕ) → apart (v * d) n ≤ apart (y * 2 ^ k * d) n
  of-unit y =
      rw (at_multiple, mul_assoc y (2 ^ k) d, mul_comm (2 ^ k) d) (closest_nearest n (d * 2 ^ k) y (mul-pos D (pow_pos k)))

  -- below 2 ^ (h + k), which is such a multiple, and n is no less
  beneath : 0 < k → (x : ℕ) → x ≤ 2 ^ (h + k) → apart (v * d) n ≤ apart (x * d) n
  beneath K x i =
      let reach : 2 ^ (h + k) * d ≤ n = (le-div_iff_mul-le D).0 (size_reaches (n / d) (h + k) (omega arith)) in
      let top : apart (v * d) n ≤ apart (2 ^ (h + k) * d) n = rw (pow-add 2 h k) (of-unit (2 ^ h)) in
      let less : x * d ≤ 2 ^ (h + k) * d = mul-le-mul_right d i in
      le_trans top (nearer (x * d) (2 ^ (h + k) * d) n less reach)
    where
      nearer : (x y n : ℕ) → x ≤ y → y ≤ n → apart y n ≤ apart x n
      nearer x y n h l = omega arith

  kept-nearest : (y j : ℕ) → y < 2 ^ suc h → apart (v * d) n ≤ apart (y * 2 ^ j * d) n
  kept-nearest y j few = go (leb k j) (leb→le k j) (nleb→lt k j)
    where
      go : (b : Bool) → (T b → k ≤ j) → (T (not b) → j < k) → apart (v * d) n ≤ apart (y * 2 ^ j * d) n
      go true le gt =
          let i = le tt in
          let back : j - k + k ≡ j = omega arith in
          let same : y * 2 ^ (j - k) * 2 ^ k ≡ y * 2 ^ j = rw (mul_assoc y (2 ^ (j - k)) (2 ^ k), ← pow-add 2 (j - k) k, back) refl in
          rw same at (of-unit (y * 2 ^ (j - k)))
      go false le gt =
          let i = gt tt in
          let small : y * 2 ^ j < 2 ^ (suc h + j) = shl_lt (suc h) j few in
          let most : 2 ^ (suc h + j) ≤ 2 ^ (h + k) = pow_mono {i = suc h + j} {j = h + k} (omega arith) in
          beneath (lt_of_le_of_lt zero-le i) (y * 2 ^ j) (le_of_lt (lt_of_lt_of_le small most))

  -- twice the distance is the unit only where what is kept is even
  kept-even : apart (v * d) n * 2 ≡ d * 2 ^ k → kept (suc h) n d % 2 ≡ 0
  kept-even e = closest_even n (d * 2 ^ k) (mul-pos D (pow_pos k)) (rw at_multiple at e)

-- ---- doubles
pow-under : (i l : ℕ) → 2 ^ i ≤ 2 ^ l → i ≤ l
pow-under i l h = go (leb i l) (leb→le i l) (nleb→lt i l)
  where
    go : (b : Bool) → (T b → i ≤ l) → (T (not b) → l < i) → i ≤ l
    go true le gt = le tt
    go false le gt = absurd (not-le_of_lt (pow-lt {i = l} {j = i} (gt tt)) h)

-- the digits of a double that fits, and its units
digits-units : (m k l Y : ℕ) (e : ℤ) → down e ≤ 2 ^ l → m * up e * 2 ^ l ≡ Y * down e → (j : ℕ) × (Y ≡ m * 2 ^ j)
digits-units m k l Y (pos i) h v =
    (i + l, eq_of_mul-eq-mul_right 1 (zero-lt-suc 0) Y (m * 2 ^ (i + l)) (sym v ∙ rw (pow-add 2 i l, mul-one (m * (2 ^ i * 2 ^ l))) (mul_assoc m (2 ^ i) (2 ^ l))))
digits-units m k l Y (negsuc i) h v =
    let low : suc i ≤ l = pow-under (suc i) l h in
    let back : l - suc i + suc i ≡ l = omega arith in (
      l - suc i,
      eq_of_mul-eq-mul_right (2 ^ suc i) (pow_pos (suc i)) Y (m * 2 ^ (l - suc i))
          (sym v ∙ rw (mul-one m, mul_assoc m (2 ^ (l - suc i)) (2 ^ suc i), ← pow-add 2 (l - suc i) (suc i), back) refl),
    )

zero-units : (u w d Y : ℕ) → 0 < d → 0 * u * w ≡ Y * d → Y ≡ 0 * 2 ^ 0
zero-units u w d Y D v =
    eq_of_mul-eq-mul_right d D Y 0 (sym v ∙ rw (zero-mul u, zero-mul w, zero-mul d) refl)

fits-units : (y : Float) (s : Bool) (Y : ℕ) → T (fits binary64 y) → HasValue y s Y (2 ^ 1074) → (m : ℕ) × (j : ℕ) × (m < 2 ^ 53) × (Y ≡ m * 2 ^ j)
unfolding fits
fits-units (fin t zero e) s Y f v = (0, 0, pow_pos 53, zero-units (up e) (2 ^ 1074) (down e) Y (down_pos e) v.1)
fits-units (fin t (suc m) e) s Y f v =
    let a = eqb (suc m % 2) 1 in
    let b = ltb (suc m) (2 ^ 53) in
    let c = leb (down e) (2 ^ 1074) in
    let d = ltb (suc m * up e) (2 ^ 1024 * down e) in
    let left = and_l (a && b && c) d f in
    let few = ltb→lt (suc m) (2 ^ 53) (and_r a b (and_l (a && b) c left)) in
    let low = leb→le (down e) (2 ^ 1074) (and_r (a && b) c left) in
    let (j, same) = digits-units (suc m) 0 1074 Y e low v.1 in
    (suc m, j, few, same)
fits-units lib.Ieee.nan s Y f v = elim v [ ]
fits-units (lib.Ieee.inf _) s Y f v = elim v [ ]

pub round_nearest : (s : Bool) (num den : ℕ) → 0 < den → grid binary64 num den < overflow binary64 → NearestDouble s num den (round binary64 s num den)
round_nearest s num den D fine =
    let n = num * 2 ^ 1074 in
    record {
      units = grid binary64 num den;
      value = rw (round_is binary64 s num den) (units_val binary64 s (kept 53 n den) (drop 53 n den) fine);
      least = λ y other f v. least-of y other f v;
      steps = kept 53 n den;
      dropped = drop 53 n den;
      split = refl;
      even = kept-even 52 n den D;
    }
  where
    least-of : (y : Float) (other : ℕ) → T (fits binary64 y) → HasValue y s other (2 ^ 1074)
        → apart (grid binary64 num den * den) (num * 2 ^ 1074) ≤ apart (other * den) (num * 2 ^ 1074)
    least-of y other f v =
        let (m, j, few, same) = fits-units y s other f v in
        rw same (kept-nearest 52 (num * 2 ^ 1074) den D m j few)
