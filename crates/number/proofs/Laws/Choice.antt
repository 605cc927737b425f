-- Laws of tests, and of a choice by one.
--     and_left, and_right, and_both     a test of two, taken apart and put together
--     and_assoc                         tests of three
--     choose, pass                      what a test chooses, when it holds and when it can't
--     chosen                            a result that is not the second was chosen: the test holds
--     clash                             no test holds and fails
--     none_below                        what a `match` leaves to its last arm
-- Assumes nothing.
use Prim.Native.Nat.{ℕ, zero, suc, zero-le, ◌≤◌}
use mathlib.Core.Path.{◌≡◌, refl}
use native.Mathlib.Omega.{arith}
use mathlib.Core.Bool.{Bool, true, false, cond, ◌&&◌}

pub and_left : (a b : Bool) → a && b ≡ true → a ≡ true
and_left true b e = refl
and_left false b e = e

pub and_right : (a b : Bool) → a && b ≡ true → b ≡ true
and_right true b e = e
and_right false b e = let z : false ≡ true = e in cc

pub and_both : {a b : Bool} → a ≡ true → b ≡ true → a && b ≡ true
and_both p q = rw (p, q) refl

pub and_assoc : (a b c : Bool) → a && (b && c) ≡ (a && b) && c
and_assoc true b c = refl
and_assoc false b c = refl

pub choose : {A : Type 0} {b : Bool} (x y : A) → b ≡ true → x ≡ cond b x y
choose x y e = rw e refl

pub pass : {A : Type 0} (b : Bool) (x y : A) → (b ≡ true → ⊥) → y ≡ cond b x y
pass true x y n = absurd (n refl)
pass false x y n = refl

pub chosen : {A : Type 0} (b : Bool) (x y : A) {z : A} → cond b x y ≡ z → (y ≡ z → ◌≡◌ {A = ℕ} 0 1) → (b ≡ true) × (x ≡ z)
chosen true x y e n = (refl, e)
chosen false x y e n = absurd (let z = n e in omega arith)

pub clash : {b : Bool} → b ≡ true → b ≡ false → ⊥
clash p q = let z : ◌≡◌ {A = ℕ} 0 1 = cc in omega arith

-- p is none of the numbers below k, as a `match` leaves it, so it is k at least
abbrev pub NoneBelow : ℕ → ℕ → Type 0
NoneBelow zero p = Unit
NoneBelow (suc k) p = NoneBelow k p × (p ≡ k → ⊥)

pub none_below : (k p : ℕ) → NoneBelow k p → k ≤ p
none_below zero p h = zero-le
none_below (suc k) p (h, n) = let l = none_below k p h in omega arith
