-- Rounding to the nearest whole number of units moves a number by half a unit at most.
-- Assumes nothing.
use mathlib.Core.Path.{◌≡◌}
use Prim.Native.Nat.{ℕ, zero, suc, ◌+◌, ◌*◌, ◌/◌, ◌%◌, ◌≤◌, ◌<◌, compare, Ordering}
use native.Mathlib.Nat.{add-zero, suc-mul, le_of_lt, mod-lt, div-add-mod', zero-lt-suc}
use native.Mathlib.Numerals.{add-one}
use native.Mathlib.Omega.{arith}
use mathlib.Core.Bool.{not}
use lib.Dec.{T, is_le, compare_is_eq, leb→le, nleb→lt, eqb→eq}
use lib.Ieee.{nearest}
use lib.Ieee.Nearest.{closest}
use Rattle.real.specs.Near.{apart}

-- n = w u + r with r < u
module _ (n u w r : ℕ) (split : w * u + r ≡ n) (rest : r < u) where
  lower : r * 2 ≤ u → apart (w * u) n * 2 ≤ u
  lower h = omega arith

  upper : u ≤ r * 2 → apart (suc w * u) n * 2 ≤ u
  upper h = omega (arith, suc-mul w u)

  -- at a tie both neighbours are half a unit off
  tie : (b : ℕ) → b < 2 → r * 2 ≡ u → apart ((w + b) * u) n * 2 ≤ u
  tie zero l e = rw (add-zero w) (lower (omega arith))
  tie (suc zero) l e = rw (add-one w) (upper (omega arith))
  tie (suc (suc b)) l e = absurd (omega arith)

  nearest-half : (o : Ordering) → (T (is_le o) → r * 2 ≤ u) → (T (not (is_le o)) → u < r * 2) → (T (compare_is_eq o) → r * 2 ≡ u)
      → apart (nearest w o * u) n * 2 ≤ u
  nearest-half Ordering.lt le gt eq = lower (le tt)
  nearest-half Ordering.eq le gt eq = tie (w % 2) (mod-lt w (zero-lt-suc 1)) (eq tt)
  nearest-half Ordering.gt le gt eq = upper (le_of_lt (gt tt))

pub closest_half : (n u : ℕ) → 0 < u → apart (closest n u * u) n * 2 ≤ u
closest_half n u U =
    let t = n % u * 2 in
    nearest-half n u (n / u) (n % u) (div-add-mod' n u) (mod-lt n U) (compare t u) (leb→le t u) (nleb→lt t u) (eqb→eq t u)
