-- A near double tells the written number: two numbers of up to ten digits that are near the same double are the same number,
-- with the same sign. The distance alone says so. And a near double is finite, so it is no NaN.
--     wide-tells                    numbers with powers of ten: the smaller power goes out of both, and a gap of 1 is then too wide
--     near-tells                    plain decimals
--     near_finite, near-number      no infinity, no NaN
--     near-finer                    what is near over 2 ^ t is near over any higher power
-- Assumes nothing.
use mathlib.Core.Path.{◌≡◌, refl, sym}
use Prim.Native.Nat.{ℕ, ◌+◌, ◌-◌, ◌*◌, ◌^◌, ◌≤◌, ◌<◌}
use native.Mathlib.Nat.{le_of_lt, mul_assoc, mul_comm, mul_right_comm, mul-one, add-mul, add-sub_of_le}
use native.Mathlib.Omega.{arith}
use mathlib.Core.Bool.{Bool, true, false, not}
use lib.Dec.{T, leb, leb→le, nleb→lt}
use lib.Pow.{pow-add, pow_pos}
use lib.Ieee.{Float, is_nan}
use lib.Ieee.Scale.{finite}
use Rattle.real.specs.Near.{Near, NearOver, apart}
use Rattle.real.proofs.Laws.Apart.{apart_times, apart-over, apart-between}
use Rattle.real.proofs.Laws.Quotient.{ten_pos}
use Rattle.real.proofs.Laws.Value.{value_same, value_tells, value_finite, finite_number}

-- |a - n| 2 ^ 53 ≤ a + n ≤ |a - n| + 2 n, and 2 n is far below 2 ^ 53
close-same : (a n : ℕ) → n < 10 ^ 10 → apart a n * 2 ^ 53 ≤ a + n → a ≡ n
close-same a n few h = omega arith

-- z / t is near a / u and b / w: then |a w - b u| 2 ^ 53 ≤ a w + b u
between : (z t a b u w : ℕ) → 0 < t → apart (z * u) (a * t) * 2 ^ 53 ≤ a * t → apart (z * w) (b * t) * 2 ^ 53 ≤ b * t
    → apart (a * w) (b * u) * 2 ^ 53 ≤ a * w + b * u
between z t a b u w some near far =
    let one : apart (z * u * w) (a * w * t) * 2 ^ 53 ≤ a * w * t =
    rw (mul_right_comm a t w) at (apart_times w (z * u) (a * t) (2 ^ 53) (a * t) near) in
    let two : apart (z * u * w) (b * u * t) * 2 ^ 53 ≤ b * u * t =
    rw (mul_right_comm z w u, mul_right_comm b t u) at (apart_times u (z * w) (b * t) (2 ^ 53) (b * t) far) in
    apart-over t (a * w) (b * u) (2 ^ 53) (a * w + b * u) some
    (rw (add-mul (a * w) (b * u) t) (apart-between (z * u * w) (a * w * t) (b * u * t) (2 ^ 53) one two))

-- the power of ten that both have goes out, and what is left of the one is below 10 ^ 10
powers_tell : (m n e f : ℕ) → n < 10 ^ 10 → f ≤ e → apart (m * 10 ^ e) (n * 10 ^ f) * 2 ^ 53 ≤ m * 10 ^ e + n * 10 ^ f
    → m * 10 ^ e ≡ n * 10 ^ f
powers_tell m n e f few h near =
    let c = m * 10 ^ (e - f) in
    let split : 10 ^ (e - f) * 10 ^ f ≡ 10 ^ e = rw (mul_comm (10 ^ (e - f)) (10 ^ f), ← pow-add 10 f (e - f), add-sub_of_le h) in
    let moved : m * 10 ^ e ≡ c * 10 ^ f = rw (mul_assoc m (10 ^ (e - f)) (10 ^ f), split) in
    let over = apart-over (10 ^ f) c n (2 ^ 53) (c + n) (ten_pos f) (rw (add-mul c n (10 ^ f)) (rw moved at near)) in
    rw (moved, close-same c n few over)

swapped : (a b : ℕ) → apart a b * 2 ^ 53 ≤ a + b → apart b a * 2 ^ 53 ≤ b + a
swapped a b h = omega arith

pub wide-tells : (w : ℕ) (s t : Bool) (m n a b c d : ℕ) (x : Float) → NearOver w s (m * 10 ^ a) b x → NearOver w t (n * 10 ^ c) d x
    → m < 10 ^ 10 → n < 10 ^ 10 → (s ≡ t) × (m * 10 ^ a * 10 ^ d ≡ n * 10 ^ c * 10 ^ b)
wide-tells w s t m n a b c d x h k M N = (
  one.0,
  rw (mul_assoc m (10 ^ a) (10 ^ d), mul_assoc n (10 ^ c) (10 ^ b), ← pow-add 10 a d, ← pow-add 10 c b)
      (go (leb (c + b) (a + d)) (leb→le (c + b) (a + d)) (nleb→lt (c + b) (a + d))),
)
  where
    one : (s ≡ t) × (h.parts ≡ k.parts)
    one = value_tells x s t h.parts k.parts (2 ^ w) h.value k.value

    moved : apart (k.parts * 10 ^ b) (m * 10 ^ a * 2 ^ w) * 2 ^ 53 ≤ m * 10 ^ a * 2 ^ w
    moved = rw one.1 at h.close

    both : apart (m * 10 ^ (a + d)) (n * 10 ^ (c + b)) * 2 ^ 53 ≤ m * 10 ^ (a + d) + n * 10 ^ (c + b)
    both =
        rw (mul_assoc m (10 ^ a) (10 ^ d), mul_assoc n (10 ^ c) (10 ^ b), ← pow-add 10 a d, ← pow-add 10 c b) at
        (between k.parts (2 ^ w) (m * 10 ^ a) (n * 10 ^ c) (10 ^ b) (10 ^ d) (pow_pos w) moved k.close)

    go : (q : Bool) → (T q → c + b ≤ a + d) → (T (not q) → a + d < c + b) → m * 10 ^ (a + d) ≡ n * 10 ^ (c + b)
    go true le gt = powers_tell m n (a + d) (c + b) N (le tt) both
    go false le gt = sym (powers_tell n m (c + b) (a + d) M (le_of_lt (gt tt)) (swapped (m * 10 ^ (a + d)) (n * 10 ^ (c + b)) both))

pub near-tells : (s t : Bool) (m n p q : ℕ) (x : Float) → Near s m p x → Near t n q x → m < 10 ^ 10 → n < 10 ^ 10
    → (s ≡ t) × (m * 10 ^ q ≡ n * 10 ^ p)
near-tells s t m n p q x h k M N =
    rw (mul-one m, mul-one n) at (wide-tells 82 s t m n 0 p 0 q x (rw (mul-one m) h) (rw (mul-one n) k) M N)

pub near_finite : {t : ℕ} {s : Bool} {m p : ℕ} {x : Float} → NearOver t s m p x → T (finite x)
near_finite {t} {s} {x = x} h = value_finite x s h.parts (2 ^ t) h.value

pub near-number : {t : ℕ} {s : Bool} {m p : ℕ} {x : Float} → NearOver t s m p x → T (not (is_nan x))
near-number {x = x} h = finite_number x (near_finite h)

-- V over 2 ^ t is V 2 ^ k over 2 ^ (t + k)
pub near-finer : (k : ℕ) {t : ℕ} {s : Bool} {n p : ℕ} {x : Float} → NearOver t s n p x → NearOver (t + k) s n p x
near-finer k {t} {s} {n} {p} {x} h =
    let v = h.parts in
    let split = pow-add 2 t k in
    let same : v * 2 ^ k * 2 ^ t ≡ v * 2 ^ (t + k) = rw (split, mul_assoc v (2 ^ k) (2 ^ t), mul_comm (2 ^ k) (2 ^ t)) refl in
    record {
      parts = v * 2 ^ k;
      value = value_same x s v (2 ^ t) (v * 2 ^ k) (2 ^ (t + k)) (pow_pos t) same h.value;
      close = rw (split, ← mul_assoc n (2 ^ t) (2 ^ k), mul_right_comm v (2 ^ k) (10 ^ p))
          (apart_times (2 ^ k) (v * 10 ^ p) (n * 2 ^ t) (2 ^ 53) (n * 2 ^ t) h.close);
    }
