-- ((a x + b y) + c z) + d in doubles: 2 ^ 50 times the distance from the exact sum is at most the sum of the four terms' sizes.
-- Assumes nothing.
use mathlib.Core.Path.{◌≡◌, refl}
use Prim.Native.Nat.{ℕ, ◌+◌, ◌*◌, ◌^◌, ◌≤◌, ◌<◌}
use native.Mathlib.Nat.{le_of_lt, le_trans, lt_of_lt_of_le, lt_of_le_of_lt, mul_assoc, mul-le-mul_left, mul-le-mul_right}
use native.Mathlib.Omega.{arith}
use mathlib.Core.Bool.{Bool, true, false}
use lib.Dec.{lit≤}
use lib.Pow.{pow_pos, shl_lt}
use lib.Ieee.{Float, binary64, unlike, mul, add}
use lib.Ieee.Exact.{HasValue}
use Rattle.real.specs.Near.{apart}
use Rattle.real.proofs.Laws.Value.{value_same}
use Rattle.matrix.specs.Bound.{Held}
use Rattle.matrix.proofs.Laws.Signed.{above, under, NearParts}
use Rattle.matrix.specs.Apply.{sum_of}
use Rattle.matrix.proofs.Laws.Grid.{Rounded}
use Rattle.matrix.proofs.Laws.Ops.{product-near, sum_near}

-- ---- signs and sizes
parts-size : (s : Bool) (m : ℕ) → above s m + under s m ≡ m
parts-size false m = omega arith
parts-size true m = omega arith

off-size : (r : Bool) (R u o off : ℕ) → above r R + u ≤ under r R + o + off → under r R + o ≤ above r R + u + off → R ≤ u + o + off
off-size false R u o off h l = omega arith
off-size true R u o off h l = omega arith

-- the sum of two is no larger than its two terms and what it is off
sized : (r : Bool) (R : ℕ) (s : Bool) (a : ℕ) (t : Bool) (b off : ℕ)
    → above r R + (under s a + under t b) ≤ under r R + (above s a + above t b) + off
    → under r R + (above s a + above t b) ≤ above r R + (under s a + under t b) + off → R ≤ a + b + off
sized r R s a t b off h l =
    omega (arith, parts-size s a, parts-size t b, off-size r R (under s a + under t b) (above s a + above t b) off h l)

-- a product and its rounded one, of the same sign
same_sign : (r : Bool) (R n : ℕ) → (above r R + under r n ≤ under r R + above r n + apart R n) × (under r R + above r n ≤ above r R + under r n + apart R n)
same_sign false R n = (omega arith, omega arith)
same_sign true R n = (omega arith, omega arith)

-- ---- the errors add up
-- x to y₃ are the errors times 2 ^ 53
sums_up : (t₁ t₂ t₃ d p₁ p₂ p₃ u₁ u₂ e₁ e₂ e₃ o₁ o₂ o₃ x₁ x₂ x₃ y₁ y₂ y₃ : ℕ)
    → x₁ ≤ t₁ → x₂ ≤ t₂ → x₃ ≤ t₃
    → p₁ ≤ t₁ + e₁ → p₂ ≤ t₂ + e₂ → p₃ ≤ t₃ + e₃
    → y₁ ≤ p₁ + p₂ → u₁ ≤ p₁ + p₂ + o₁ → y₂ ≤ u₁ + p₃ → u₂ ≤ u₁ + p₃ + o₂ → y₃ ≤ u₂ + d
    → x₁ + x₂ + x₃ + y₁ + y₂ + y₃ ≤ 4 * (t₁ + t₂ + t₃ + d) + 3 * (e₁ + e₂ + e₃ + o₁ + o₂ + o₃)
sums_up t₁ t₂ t₃ d p₁ p₂ p₃ u₁ u₂ e₁ e₂ e₃ o₁ o₂ o₃ x₁ x₂ x₃ y₁ y₂ y₃ h₁ h₂ h₃ q₁ q₂ q₃ a₁ b₁ a₂ b₂ a₃ = omega arith

eighth : (E M : ℕ) → E * 2 ^ 53 ≤ 4 * M + 3 * E → E * 2 ^ 50 ≤ M
eighth E M h = omega arith

gather : (e₁ e₂ e₃ o₁ o₂ o₃ : ℕ) → (e₁ + e₂ + e₃ + o₁ + o₂ + o₃) * 2 ^ 53
    ≡ e₁ * 2 ^ 53 + e₂ * 2 ^ 53 + e₃ * 2 ^ 53 + o₁ * 2 ^ 53 + o₂ * 2 ^ 53 + o₃ * 2 ^ 53
gather e₁ e₂ e₃ o₁ o₂ o₃ = omega arith

pub total : (t₁ t₂ t₃ d p₁ p₂ p₃ u₁ u₂ e₁ e₂ e₃ o₁ o₂ o₃ : ℕ)
    → e₁ * 2 ^ 53 ≤ t₁ → e₂ * 2 ^ 53 ≤ t₂ → e₃ * 2 ^ 53 ≤ t₃
    → p₁ ≤ t₁ + e₁ → p₂ ≤ t₂ + e₂ → p₃ ≤ t₃ + e₃
    → o₁ * 2 ^ 53 ≤ p₁ + p₂ → u₁ ≤ p₁ + p₂ + o₁ → o₂ * 2 ^ 53 ≤ u₁ + p₃ → u₂ ≤ u₁ + p₃ + o₂ → o₃ * 2 ^ 53 ≤ u₂ + d
    → (e₁ + e₂ + e₃ + o₁ + o₂ + o₃) * 2 ^ 50 ≤ t₁ + t₂ + t₃ + d
total t₁ t₂ t₃ d p₁ p₂ p₃ u₁ u₂ e₁ e₂ e₃ o₁ o₂ o₃ h₁ h₂ h₃ q₁ q₂ q₃ a₁ b₁ a₂ b₂ a₃ =
    eighth (e₁ + e₂ + e₃ + o₁ + o₂ + o₃) (t₁ + t₂ + t₃ + d)
    (rw (gather e₁ e₂ e₃ o₁ o₂ o₃)
    (sums_up t₁ t₂ t₃ d p₁ p₂ p₃ u₁ u₂ e₁ e₂ e₃ o₁ o₂ o₃ (e₁ * 2 ^ 53) (e₂ * 2 ^ 53) (e₃ * 2 ^ 53) (o₁ * 2 ^ 53) (o₂ * 2 ^ 53) (o₃ * 2 ^ 53)
    h₁ h₂ h₃ q₁ q₂ q₃ a₁ b₁ a₂ b₂ a₃))

-- each step is off by so much, so the last is off by all of it
drift : (a₁ v₁ a₂ v₂ a₃ v₃ p₁ q₁ p₂ q₂ p₃ q₃ d c f₁ g₁ f₂ g₂ f₃ g₃ e₁ e₂ e₃ o₁ o₂ o₃ : ℕ)
    → p₁ + v₁ ≤ q₁ + a₁ + e₁ → p₂ + v₂ ≤ q₂ + a₂ + e₂ → p₃ + v₃ ≤ q₃ + a₃ + e₃
    → f₁ + (q₁ + q₂) ≤ g₁ + (p₁ + p₂) + o₁ → f₂ + (g₁ + q₃) ≤ g₂ + (f₁ + p₃) + o₂ → f₃ + (g₂ + c) ≤ g₃ + (f₂ + d) + o₃
    → f₃ + (v₁ + v₂ + v₃ + c) ≤ g₃ + (a₁ + a₂ + a₃ + d) + (e₁ + e₂ + e₃ + o₁ + o₂ + o₃)
drift a₁ v₁ a₂ v₂ a₃ v₃ p₁ q₁ p₂ q₂ p₃ q₃ d c f₁ g₁ f₂ g₂ f₃ g₃ e₁ e₂ e₃ o₁ o₂ o₃ h₁ h₂ h₃ i₁ i₂ i₃ = omega arith

between : (x y E M : ℕ) → x ≤ y + E → y ≤ x + E → E * 2 ^ 50 ≤ M → apart x y * 2 ^ 50 ≤ M
between x y E M h l m = let k : apart x y ≤ E = omega arith in le_trans (mul-le-mul_right (2 ^ 50) k) m

-- ---- nothing grows out of a double: K bounds the terms
double-of : (R n : ℕ) → apart R n * 2 ^ 53 ≤ n → (R ≤ n + apart R n) × (R ≤ n + n)
double-of R n h = (omega arith, omega arith)

twice_of : (U n o : ℕ) → U ≤ n + o → o * 2 ^ 53 ≤ n → U ≤ n + n
twice_of U n o h l = omega arith

module _ (K L : ℕ) (wide : K * 64 ≤ L) where
  room₁ : (n : ℕ) → n < K → n + n < L
  room₁ n h = omega arith

  room₂ : (t₁ t₂ p₁ p₂ : ℕ) → t₁ < K → t₂ < K → p₁ ≤ t₁ + t₁ → p₂ ≤ t₂ + t₂ → p₁ + p₂ + (p₁ + p₂) < L
  room₂ t₁ t₂ p₁ p₂ h i l m = omega arith

  room₃ : (t₁ t₂ t₃ p₁ p₂ p₃ u : ℕ) → t₁ < K → t₂ < K → t₃ < K → p₁ ≤ t₁ + t₁ → p₂ ≤ t₂ + t₂ → p₃ ≤ t₃ + t₃
      → u ≤ p₁ + p₂ + (p₁ + p₂) → u + p₃ + (u + p₃) < L
  room₃ t₁ t₂ t₃ p₁ p₂ p₃ u h i j l m n o = omega arith

  room₄ : (t₁ t₂ t₃ d p₁ p₂ p₃ u w : ℕ) → t₁ < K → t₂ < K → t₃ < K → d < K → p₁ ≤ t₁ + t₁ → p₂ ≤ t₂ + t₂ → p₃ ≤ t₃ + t₃
      → u ≤ p₁ + p₂ + (p₁ + p₂) → w ≤ u + p₃ + (u + p₃) → w + d + (w + d) < L
  room₄ t₁ t₂ t₃ d p₁ p₂ p₃ u w h i j k l m n o q = omega arith

product_small : (a b k : ℕ) → a < 2 ^ k → b < 2 ^ k → a * b < 2 ^ (k + k)
product_small a b k h i = lt_of_le_of_lt (mul-le-mul_left a (le_of_lt i)) (shl_lt k k h)

held_small : {x : Float} (h : Held x) → h.parts < 2 ^ 234
held_small h = lt_of_lt_of_le h.small (lit≤ tt)

wide_enough : 2 ^ 468 * 64 ≤ 2 ^ 1276
wide_enough = lit≤ tt

finer : (d : Float) (s : Bool) (n : ℕ) → HasValue d s n (2 ^ 126) → HasValue d s (n * 2 ^ 126) (2 ^ 252)
finer d s n v = value_same d s n (2 ^ 126) (n * 2 ^ 126) (2 ^ 252) (pow_pos 126) (rw (mul_assoc n (2 ^ 126) (2 ^ 126)) refl) v

-- ---- the sum of three rounded products and a fourth term
module _ (x₁ x₂ x₃ x₄ : Float) (s₁ s₂ s₃ s₄ : Bool) (t₁ t₂ t₃ n : ℕ)
    (f₁ : Rounded x₁ s₁ 252 t₁) (f₂ : Rounded x₂ s₂ 252 t₂) (f₃ : Rounded x₃ s₃ 252 t₃) (v : HasValue x₄ s₄ n (2 ^ 252))
    (K : ℕ) (wide : K * 64 ≤ 2 ^ 1276) (k₁ : t₁ < K) (k₂ : t₂ < K) (k₃ : t₃ < K) (k₄ : n < K) where
  pub sums-near : NearParts (add binary64 (add binary64 (add binary64 x₁ x₂) x₃) x₄) s₁ t₁ s₂ t₂ s₃ t₃ s₄ n
  sums-near =
      let L = 2 ^ 1276 in
      let p₁ = f₁.parts in
      let p₂ = f₂.parts in
      let p₃ = f₃.parts in
      let (q₁, m₁) = double-of p₁ t₁ f₁.close in
      let (q₂, m₂) = double-of p₂ t₂ f₂.close in
      let (q₃, m₃) = double-of p₃ t₃ f₃.close in
      let g₁ = sum_near x₁ x₂ s₁ s₂ p₁ p₂ 252 822 f₁.value f₂.value refl (room₂ K L wide t₁ t₂ p₁ p₂ k₁ k₂ m₁ m₂) in
      let u₁ = g₁.parts in
      let b₁ : u₁ ≤ p₁ + p₂ + g₁.off = sized g₁.sign u₁ s₁ p₁ s₂ p₂ g₁.off g₁.high g₁.low in
      let c₁ = twice_of u₁ (p₁ + p₂) g₁.off b₁ g₁.close in
      let g₂ = sum_near (add binary64 x₁ x₂) x₃ g₁.sign s₃ u₁ p₃ 252 822 g₁.value f₃.value refl
      (room₃ K L wide t₁ t₂ t₃ p₁ p₂ p₃ u₁ k₁ k₂ k₃ m₁ m₂ m₃ c₁) in
      let u₂ = g₂.parts in
      let b₂ : u₂ ≤ u₁ + p₃ + g₂.off = sized g₂.sign u₂ g₁.sign u₁ s₃ p₃ g₂.off g₂.high g₂.low in
      let c₂ = twice_of u₂ (u₁ + p₃) g₂.off b₂ g₂.close in
      let g₃ = sum_near (add binary64 (add binary64 x₁ x₂) x₃) x₄ g₂.sign s₄ u₂ n 252 822 g₂.value v refl
      (room₄ K L wide t₁ t₂ t₃ n p₁ p₂ p₃ u₁ u₂ k₁ k₂ k₃ k₄ m₁ m₂ m₃ c₁ c₂) in
      let e₁ = apart p₁ t₁ in
      let e₂ = apart p₂ t₂ in
      let e₃ = apart p₃ t₃ in
      let (h₁, l₁) = same_sign s₁ p₁ t₁ in
      let (h₂, l₂) = same_sign s₂ p₂ t₂ in
      let (h₃, l₃) = same_sign s₃ p₃ t₃ in
      let r₁ = g₁.sign in
      let r₂ = g₂.sign in
      let r₃ = g₃.sign in
      let u₃ = g₃.parts in
      let high = drift (above s₁ t₁) (under s₁ t₁) (above s₂ t₂) (under s₂ t₂) (above s₃ t₃) (under s₃ t₃)
      (above s₁ p₁) (under s₁ p₁) (above s₂ p₂) (under s₂ p₂) (above s₃ p₃) (under s₃ p₃) (above s₄ n) (under s₄ n)
      (above r₁ u₁) (under r₁ u₁) (above r₂ u₂) (under r₂ u₂) (above r₃ u₃) (under r₃ u₃) e₁ e₂ e₃ g₁.off g₂.off g₃.off
      h₁ h₂ h₃ g₁.high g₂.high g₃.high in
      let low = drift (under s₁ t₁) (above s₁ t₁) (under s₂ t₂) (above s₂ t₂) (under s₃ t₃) (above s₃ t₃)
      (under s₁ p₁) (above s₁ p₁) (under s₂ p₂) (above s₂ p₂) (under s₃ p₃) (above s₃ p₃) (under s₄ n) (above s₄ n)
      (under r₁ u₁) (above r₁ u₁) (under r₂ u₂) (above r₂ u₂) (under r₃ u₃) (above r₃ u₃) e₁ e₂ e₃ g₁.off g₂.off g₃.off
      l₁ l₂ l₃ g₁.low g₂.low g₃.low in
      let all = total t₁ t₂ t₃ n p₁ p₂ p₃ u₁ u₂ e₁ e₂ e₃ g₁.off g₂.off g₃.off f₁.close f₂.close f₃.close
      q₁ q₂ q₃ g₁.close b₁ g₂.close b₂ g₃.close in
      record {
        is_minus = r₃;
        parts = u₃;
        value = g₃.value;
        close = between (above r₃ u₃ + (under s₁ t₁ + under s₂ t₂ + under s₃ t₃ + under s₄ n)) (under r₃ u₃ + (above s₁ t₁ + above s₂ t₂ + above s₃ t₃ + above s₄ n))
            (e₁ + e₂ + e₃ + g₁.off + g₂.off + g₃.off) (t₁ + t₂ + t₃ + n) high low all;
      }

-- ---- the whole chain
module _ (a b c d x y z : Float) (A : Held a) (B : Held b) (C : Held c) (D : Held d) (X : Held x) (Y : Held y) (Z : Held z) where
  product : (a x : Float) (A : Held a) (X : Held x) → Rounded (mul binary64 a x) (unlike A.is_minus X.is_minus) 252 (A.parts * X.parts)
  product a x A X =
      product-near a x A.is_minus X.is_minus A.parts X.parts 126 126 822 A.value X.value refl
      (room₁ (2 ^ 468) (2 ^ 1276) wide_enough (A.parts * X.parts) (product_small A.parts X.parts 234 (held_small A) (held_small X)))

  pub chain-near : NearParts (sum_of a b c d x y z)
      (unlike A.is_minus X.is_minus) (A.parts * X.parts)
      (unlike B.is_minus Y.is_minus) (B.parts * Y.parts)
      (unlike C.is_minus Z.is_minus) (C.parts * Z.parts)
      D.is_minus (D.parts * 2 ^ 126)
  unfolding sum_of
  chain-near =
      sums-near (mul binary64 a x) (mul binary64 b y) (mul binary64 c z) d
      (unlike A.is_minus X.is_minus) (unlike B.is_minus Y.is_minus) (unlike C.is_minus Z.is_minus) D.is_minus
      (A.parts * X.parts) (B.parts * Y.parts) (C.parts * Z.parts) (D.parts * 2 ^ 126)
      (product a x A X) (product b y B Y) (product c z C Z) (finer d D.is_minus D.parts D.value)
      (2 ^ 468) wide_enough
      (product_small A.parts X.parts 234 (held_small A) (held_small X))
      (product_small B.parts Y.parts 234 (held_small B) (held_small Y))
      (product_small C.parts Z.parts 234 (held_small C) (held_small Z))
      (lt_of_lt_of_le (shl_lt 234 126 (held_small D)) (lit≤ tt))
