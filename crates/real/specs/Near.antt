-- "|V x 10^p - M x 2^82| x 2^53 is at most M x 2^82, with signs dropped after they agree."
-- "over 2^126 in place of 2^82" (2026-10), with the option on. Nothing here rounds: the double is V over 2 ^ t exactly, and both distances are of
-- whole numbers.
use Rattle.std.specs.Prelude.{ℕ, ◌+◌, ◌-◌, ◌*◌, ◌^◌, ◌≤◌, Bool, Float}
use Rattle.std.specs.Float.Ieee.Exact.{HasValue}

-- how far apart two whole numbers are
abbrev pub apart : ℕ → ℕ → ℕ
apart a b = (a - b) + (b - a)

-- x is so near the number N over 10 ^ p with the sign s as demand 3 asks, over 2 ^ t
pub record NearOver (t : ℕ) (s : Bool) (n p : ℕ) (x : Float) : Type 0 where
  -- V
  pub parts : ℕ
  -- x is finite, has the sign s, and is V / 2 ^ t in size
  pub value : HasValue x s parts (2 ^ t)
  pub close : apart (parts * 10 ^ p) (n * 2 ^ t) * 2 ^ 53 ≤ n * 2 ^ t

-- the number of a plain decimal, M over 10 ^ p
abbrev pub Near : Bool → ℕ → ℕ → Float → Type 0
Near s m p x = NearOver 82 s m p x
