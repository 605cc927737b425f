-- Integers as the difference of two natural numbers, so that the law of the sum can be said in integers.
-- Assumes nothing.
use mathlib.Core.Path.{◌≡◌, refl}
use Prim.Native.Nat.{ℕ, zero, suc, ◌+◌, ◌-◌, ◌*◌, ◌≤◌, ◌<◌}
use native.Mathlib.Nat.{zero-mul, mul-zero}
use native.Mathlib.Omega.{arith}
use mathlib.Core.Bool.{Bool, true, false, not, cond}
use lib.Dec.{T, ltb, ltb→lt, nltb→le}
use lib.IntN.{ℤ, pos, negsuc, neg_ℤ, nat_abs, sub_ℕ, ◌+ℤ◌, ◌-ℤ◌, ◌*ℤ◌}
use lib.Ieee.{Float, unlike}
use Rattle.real.specs.Near.{apart}
use Rattle.number.specs.Whole.{with_sign}
use Rattle.matrix.specs.Bound.{NearSum}
use Rattle.matrix.proofs.Laws.Signed.{above, under, NearParts}

-- z is p - n
abbrev Is : ℤ → ℕ → ℕ → Type 0
Is (pos a) p n = a + n ≡ p
Is (negsuc a) p n = suc a + p ≡ n

is-sub : (a b : ℕ) → Is (sub_ℕ a b) a b
is-sub a b = go (ltb a b) (ltb→lt a b) (nltb→le a b)
  where
    go : (q : Bool) → (T q → a < b) → (T (not q) → b ≤ a) → Is (cond q (negsuc (b - suc a)) (pos (a - b))) a b
    go true l g = let h = l tt in omega arith
    go false l g = let h = g tt in omega arith

-- what is a - b is any difference equal to it
is_move : (z : ℤ) (a b p n : ℕ) → a + n ≡ p + b → Is z a b → Is z p n
is_move (pos c) a b p n e h = omega arith
is_move (negsuc c) a b p n e h = omega arith

is-add : (z w : ℤ) (p n q m : ℕ) → Is z p n → Is w q m → Is (z +ℤ w) (p + q) (n + m)
is-add (pos a) (pos b) p n q m h k = omega arith
is-add (pos a) (negsuc b) p n q m h k = is_move (sub_ℕ a (suc b)) a (suc b) (p + q) (n + m) (omega arith) (is-sub a (suc b))
is-add (negsuc a) (pos b) p n q m h k = is_move (sub_ℕ b (suc a)) b (suc a) (p + q) (n + m) (omega arith) (is-sub b (suc a))
is-add (negsuc a) (negsuc b) p n q m h k = omega arith

is_neg : (z : ℤ) (p n : ℕ) → Is z p n → Is (neg_ℤ z) n p
is_neg (pos zero) p n h = omega arith
is_neg (pos (suc a)) p n h = omega arith
is_neg (negsuc a) p n h = omega arith

is-size : (z : ℤ) (p n : ℕ) → Is z p n → nat_abs z ≡ apart p n
is-size (pos a) p n h = omega arith
is-size (negsuc a) p n h = omega arith

is_signed : (s : Bool) (m : ℕ) → Is (with_sign s m) (above s m) (under s m)
is_signed false m = omega arith
is_signed true zero = refl
is_signed true (suc m) = omega arith

signed-size : (s : Bool) (m : ℕ) → nat_abs (with_sign s m) ≡ m
signed-size false m = refl
signed-size true zero = refl
signed-size true (suc m) = refl

-- the product of two with their signs
pub signed_product : (s t : Bool) (a b : ℕ) → with_sign s a *ℤ with_sign t b ≡ with_sign (unlike s t) (a * b)
signed_product false false a b = refl
signed_product false true a zero = rw (mul-zero a) refl
signed_product false true a (suc b) = refl
signed_product true false zero b = rw (zero-mul b) refl
signed_product true false (suc a) b = refl
signed_product true true zero zero = refl
signed_product true true zero (suc b) = rw (zero-mul (suc b)) refl
signed_product true true (suc a) zero = rw (mul-zero (suc a)) refl
signed_product true true (suc a) (suc b) = refl

pub in_integers : (v : Float) (s₁ : Bool) (n₁ : ℕ) (s₂ : Bool) (n₂ : ℕ) (s₃ : Bool) (n₃ : ℕ) (s₄ : Bool) (n₄ : ℕ) → NearParts v s₁ n₁ s₂ n₂ s₃ n₃ s₄ n₄
    → NearSum v (with_sign s₁ n₁) (with_sign s₂ n₂) (with_sign s₃ n₃) (with_sign s₄ n₄)
in_integers v s₁ n₁ s₂ n₂ s₃ n₃ s₄ n₄ h =
    let r = h.is_minus in
    let R = h.parts in
    let z = with_sign r R in
    let a = with_sign s₁ n₁ in
    let b = with_sign s₂ n₂ in
    let c = with_sign s₃ n₃ in
    let d = with_sign s₄ n₄ in
    let P = above s₁ n₁ + above s₂ n₂ + above s₃ n₃ + above s₄ n₄ in
    let N = under s₁ n₁ + under s₂ n₂ + under s₃ n₃ + under s₄ n₄ in
    let two = is-add a b (above s₁ n₁) (under s₁ n₁) (above s₂ n₂) (under s₂ n₂) (is_signed s₁ n₁) (is_signed s₂ n₂) in
    let three = is-add (a +ℤ b) c (above s₁ n₁ + above s₂ n₂) (under s₁ n₁ + under s₂ n₂) (above s₃ n₃) (under s₃ n₃) two (is_signed s₃ n₃) in
    let four : Is (a +ℤ b +ℤ c +ℤ d) P N =
    is-add (a +ℤ b +ℤ c) d (above s₁ n₁ + above s₂ n₂ + above s₃ n₃) (under s₁ n₁ + under s₂ n₂ + under s₃ n₃) (above s₄ n₄) (under s₄ n₄) three (is_signed s₄ n₄) in
    let all = is-add z (neg_ℤ (a +ℤ b +ℤ c +ℤ d)) (above r R) (under r R) N P (is_signed r R) (is_neg (a +ℤ b +ℤ c +ℤ d) P N four) in
    record {
      is_minus = r;
      parts = R;
      value = h.value;
      close = rw (is-size (z -ℤ (a +ℤ b +ℤ c +ℤ d)) (above r R + N) (under r R + P) all, signed-size s₁ n₁, signed-size s₂ n₂, signed-size s₃ n₃, signed-size s₄ n₄) h.close;
    }
