-- The powers of ten that numbers are divided by, multiplied out one by one.
--     ten_next     one more multiplication gives the next power
--     ten_few      and none of them is large
-- Assumes nothing.
use Prim.Native.Nat.{ℕ, ◌+◌, ◌*◌, ◌^◌, ◌≤◌}
use mathlib.Core.Path.{◌≡◌, refl}
use native.Mathlib.Nat.{pow-le-pow_right, zero-lt-suc}
use lib.Pow.{pow-add}

pub ten_next : (n i : ℕ) → n ≡ 10 ^ i → n * 10 ≡ 10 ^ (i + 1)
ten_next n i e = rw (e, pow-add 10 i 1) refl

pub ten_few : (n i : ℕ) → n ≡ 10 ^ i → i ≤ 11 → n ≤ 100000000000
ten_few n i e h = rw e (pow-le-pow_right (zero-lt-suc 9) h)
