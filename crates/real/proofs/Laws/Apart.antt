-- The distance of two whole numbers: a common factor goes through it, and no way round is shorter.
-- Assumes nothing.
use mathlib.Core.Path.{◌≡◌}
use Prim.Native.Nat.{ℕ, ◌+◌, ◌*◌, ◌≤◌, ◌<◌}
use native.Mathlib.Nat.{mul_comm, mul-add, mul-sub, add-mul, mul_right_comm, mul-le-mul_right, le_of_mul-le-mul_right}
use native.Mathlib.Omega.{arith}
use Rattle.real.specs.Near.{apart}

-- |a c - b c| = |a - b| c
apart-mul : (c a b : ℕ) → apart (a * c) (b * c) ≡ apart a b * c
apart-mul c a b = simp (mul_comm, mul-add, mul-sub)

-- |a - b| h ≤ e with both sides times c, and with the c taken out again
pub apart_times : (c a b h e : ℕ) → apart a b * h ≤ e → apart (a * c) (b * c) * h ≤ e * c
apart_times c a b h e near = rw (apart-mul c a b, mul_right_comm (apart a b) c h) (mul-le-mul_right c near)

pub apart-over : (c a b h e : ℕ) → 0 < c → apart (a * c) (b * c) * h ≤ e * c → apart a b * h ≤ e
apart-over c a b h e C near = le_of_mul-le-mul_right (rw (apart-mul c a b, mul_right_comm (apart a b) c h) at near) C

-- |a - b| h ≤ |z - a| h + |z - b| h ≤ a + b
pub apart-between : (z a b h : ℕ) → apart z a * h ≤ a → apart z b * h ≤ b → apart a b * h ≤ a + b
apart-between z a b h p q =
    let around : apart a b * h ≤ (apart z a + apart z b) * h = mul-le-mul_right h (omega arith) in
    omega (arith, add-mul (apart z a) (apart z b) h)
