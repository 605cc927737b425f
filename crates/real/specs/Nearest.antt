-- "The double is the nearest to the exact value, a tie to the even last bit": over whole numbers, in the units of doubles, which are 1 / 2 ^ 1074. The
-- exact value is a whole number over another, with a sign.
use Rattle.std.specs.Prelude.{ℕ, ◌*◌, ◌^◌, ◌%◌, ◌≤◌, ◌≡◌, Bool, T, Float}
use Rattle.std.specs.Float.{binary64}
use Rattle.std.specs.Float.Ieee.{fits}
use Rattle.std.specs.Float.Ieee.Exact.{HasValue}
use Rattle.real.specs.Near.{apart}

pub record NearestDouble (s : Bool) (num den : ℕ) (x : Float) : Type 0 where
  pub units : ℕ
  pub value : HasValue x s units (2 ^ 1074)
  -- no double that 64 bits hold is nearer
  pub least : (y : Float) (other : ℕ) → T (fits binary64 y) → HasValue y s other (2 ^ 1074)
      → apart (units * den) (num * 2 ^ 1074) ≤ apart (other * den) (num * 2 ^ 1074)
  -- x is so many steps of 2 ^ dropped units; where it is half a step off, the number of steps is even
  pub steps : ℕ
  pub dropped : ℕ
  pub split : units ≡ steps * 2 ^ dropped
  pub even : apart (units * den) (num * 2 ^ 1074) * 2 ≡ den * 2 ^ dropped → steps % 2 ≡ 0
