-- Signed whole numbers as their part above zero and their part below, so that sums of them are of natural numbers alone.
-- Assumes nothing.
use Prim.Native.Nat.{ℕ, ◌+◌, ◌*◌, ◌^◌, ◌≤◌}
use mathlib.Core.Bool.{Bool, true, false}
use lib.Ieee.{Float}
use lib.Ieee.Exact.{HasValue}
use Rattle.real.specs.Near.{apart}

abbrev pub above : Bool → ℕ → ℕ
above false m = m
above true m = 0

abbrev pub under : Bool → ℕ → ℕ
under false m = 0
under true m = m

-- v is a whole number over 2 ^ 252, and 2 ^ 50 times its distance from the sum of four such terms is at most the sum of their sizes
pub record NearParts (v : Float) (s₁ : Bool) (n₁ : ℕ) (s₂ : Bool) (n₂ : ℕ) (s₃ : Bool) (n₃ : ℕ) (s₄ : Bool) (n₄ : ℕ) : Type 0 where
  pub is_minus : Bool
  pub parts : ℕ
  pub value : HasValue v is_minus parts (2 ^ 252)
  pub close : apart (above is_minus parts + (under s₁ n₁ + under s₂ n₂ + under s₃ n₃ + under s₄ n₄))
      (under is_minus parts + (above s₁ n₁ + above s₂ n₂ + above s₃ n₃ + above s₄ n₄)) * 2 ^ 50 ≤ n₁ + n₂ + n₃ + n₄
