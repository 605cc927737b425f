-- What `round` keeps of m / d in a format of h + 1 digits, counted in units of 1 / 2 ^ (r + h + g), for m above 0 and d up to 2 ^ r:
-- a multiple of 2 ^ g, off by 1 in 2 ^ (h + 1) at most. Nothing here is about floats: a format's numbers come in where this is cited.
-- Assumes nothing.
use mathlib.Core.Path.{◌≡◌}
use Prim.Native.Nat.{ℕ, suc, ◌+◌, ◌-◌, ◌*◌, ◌/◌, ◌^◌, ◌≤◌, ◌<◌}
use native.Mathlib.Nat.{le_trans, le_of_eq, lt_of_le_of_lt, lt_of_lt_of_le, lt_of_not-le, not-le_of_lt, le-div_iff_mul-le, add-mul}
use native.Mathlib.Nat.{one-mul, mul_assoc, mul_comm, mul_left_comm, mul_right_comm, mul-pos, pow-succ'}
use native.Mathlib.Nat.{mul-le-mul_left, mul-le-mul_right, le-mul_of_pos_right}
use native.Mathlib.Omega.{arith}
use lib.Pow.{pow-add, pow_pos, pow_mono, shl_lt}
use lib.Ieee.{size}
use lib.Ieee.Digits.{size-lt, size_reaches}
use lib.Ieee.Nearest.{closest}
use lib.Ieee.Order.{drop, kept}
use Rattle.real.specs.Near.{apart}
use Rattle.real.proofs.Laws.Apart.{apart-over}
use Rattle.real.proofs.Laws.Halves.{closest_half}

-- v units are so many parts of 2 ^ g units, and parts / 2 ^ t is near m / d
pub record Parts (h g t m d v : ℕ) : Type 0 where
  pub parts : ℕ
  pub whole : parts * 2 ^ g ≡ v
  pub close : apart (parts * d) (m * 2 ^ t) * 2 ^ suc h ≤ m * 2 ^ t

size_gt : (n j : ℕ) → 2 ^ j ≤ n → j < size n
size_gt n j h = lt_of_not-le (λ (g : size n ≤ j). not-le_of_lt (lt_of_lt_of_le (size-lt n) (pow_mono g)) h)

-- half a unit u = d 2 ^ k, of which n holds 2 ^ h: |q u - n| 2 2 ^ h ≤ u 2 ^ h ≤ n
unit-near : (h k n d : ℕ) → 0 < d → 2 ^ (h + k) * d ≤ n → apart (closest n (d * 2 ^ k) * 2 ^ k * d) n * 2 ^ suc h ≤ n
unit-near h k n d D fits =
    let u = d * 2 ^ k in
    let q = closest n u in
    let half = mul-le-mul_right (2 ^ h) (closest_half n u (mul-pos D (pow_pos k))) in
    let held : u * 2 ^ h ≡ 2 ^ (h + k) * d = simp (pow-add, mul_assoc, mul_comm, mul_left_comm) in
    rw (mul_assoc q (2 ^ k) d, mul_comm (2 ^ k) d, pow-succ' 2 h, ← mul_assoc (apart (q * u) n) 2 (2 ^ h))
    (le_trans half (le_trans (le_of_eq held) fits))

-- n / d is 2 ^ (h + g) at least, so it has h + k + 1 digits, for the k that are dropped, and k is g at least
pub kept-parts : (h g r m d : ℕ) → 0 < m → 0 < d → d ≤ 2 ^ r
    → Parts h g (r + h) m d (kept (suc h) (m * 2 ^ (r + h + g)) d * 2 ^ drop (suc h) (m * 2 ^ (r + h + g)) d)
kept-parts h g r m d M D small =
    let b = m * 2 ^ (r + h) in
    let n = m * 2 ^ (r + h + g) in
    let k = drop (suc h) n d in
    let q = kept (suc h) n d in
    let c = q * 2 ^ (k - g) in
    let one : 2 ^ (h + g) * 2 ^ r ≡ 1 * 2 ^ (r + h + g) = simp (pow-add, one-mul, mul_assoc, mul_comm) in
    let least : 2 ^ (h + g) * 2 ^ r ≤ n = le_trans (le_of_eq one) (mul-le-mul_right (2 ^ (r + h + g)) M) in
    let large : 2 ^ (h + g) * d ≤ n = le_trans (mul-le-mul_left (2 ^ (h + g)) small) least in
    let digits : h + g < size (n / d) = size_gt (n / d) (h + g) ((le-div_iff_mul-le D).1 large) in
    let near = unit-near h k n d D ((le-div_iff_mul-le D).0 (size_reaches (n / d) (h + k) (omega arith))) in
    let split : k - g + g ≡ k = omega arith in
    let whole : c * 2 ^ g ≡ q * 2 ^ k = rw (mul_assoc q (2 ^ (k - g)) (2 ^ g), ← pow-add 2 (k - g) g, split) in
    let scaled : apart (c * d * 2 ^ g) (b * 2 ^ g) * 2 ^ suc h ≤ b * 2 ^ g =
    rw (mul_right_comm c d (2 ^ g), whole, mul_assoc m (2 ^ (r + h)) (2 ^ g), ← pow-add 2 (r + h) g) near in
    record { parts = c; whole = whole; close = apart-over (2 ^ g) (c * d) b (2 ^ suc h) b (pow_pos g) scaled }

module _ (h g t m d v : ℕ) (c : Parts h g t m d v) where
  -- v / 2 ^ (t + g) = parts / 2 ^ t
  pub parts-value : c.parts * 2 ^ (t + g) ≡ v * 2 ^ t
  parts-value = rw (← c.whole) (simp (pow-add, mul_assoc, mul_comm))

  -- parts ≤ parts d ≤ 2 m 2 ^ t
  pub parts_lt : (e : ℕ) → 0 < d → m + m < 2 ^ e → v < 2 ^ (e + t + g)
  parts_lt e D room =
      let b = m * 2 ^ t in
      let a = le-mul_of_pos_right (apart (c.parts * d) b) (pow_pos (suc h)) in
      let twice : c.parts ≤ (m + m) * 2 ^ t = rw (add-mul m m (2 ^ t)) (omega (arith, le-mul_of_pos_right c.parts D)) in
      rw (← c.whole) (shl_lt (e + t) g (lt_of_le_of_lt twice (shl_lt e t room)))
