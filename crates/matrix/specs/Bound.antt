-- "For rows and positions read by the lexer without faults, 2^50 times the distance from the exact sum of exact products is at most the sum of the
-- four terms' magnitudes, over whole numbers, of the doubles held."
-- A double that is held is a whole number over 2 ^ 126, so a product of two is one over 2 ^ 252, and nothing here rounds.
use Rattle.std.specs.Prelude.{ℕ, ◌+◌, ◌*◌, ◌^◌, ◌≤◌, ◌<◌, Bool, ℤ, pos, nat_abs, ◌+ℤ◌, ◌-ℤ◌, ◌*ℤ◌, Float}
use Rattle.std.specs.Float.Ieee.Exact.{HasValue}
use Rattle.number.specs.Whole.{with_sign}
use Rattle.transformation.specs.declared.record.Transformation.{Transformation}
use Rattle.atom.specs.declared.record.Position.{Position}

-- x is a whole number over 2 ^ 126 with its sign, and below 10 ^ 32 in size
pub record Held (x : Float) : Type 0 where
  pub is_minus : Bool
  pub parts : ℕ
  pub value : HasValue x is_minus parts (2 ^ 126)
  pub small : parts < 10 ^ 32 * 2 ^ 126

-- that whole number
abbrev pub whole_of : {x : Float} → Held x → ℤ
whole_of h = with_sign h.is_minus h.parts

-- v is a whole number over 2 ^ 252, and 2 ^ 50 times its distance from the sum of four terms is at most the sum of their magnitudes
pub record NearSum (v : Float) (first second third fourth : ℤ) : Type 0 where
  pub is_minus : Bool
  pub parts : ℕ
  pub value : HasValue v is_minus parts (2 ^ 252)
  pub close : nat_abs (with_sign is_minus parts -ℤ (first +ℤ second +ℤ third +ℤ fourth)) * 2 ^ 50
      ≤ nat_abs first + nat_abs second + nat_abs third + nat_abs fourth

pub record HeldRow (r : Transformation) : Type 0 where
  pub a : Held r.a
  pub b : Held r.b
  pub c : Held r.c
  pub d : Held r.d

pub record HeldPosition (p : Position) : Type 0 where
  pub x : Held p.x
  pub y : Held p.y
  pub z : Held p.z

-- the bound of a coordinate: a x, b y, c z and d are the terms, all over 2 ^ 252
abbrev pub NearExact : Float → {r : Transformation} → HeldRow r → {p : Position} → HeldPosition p → Type 0
NearExact v r p =
    NearSum v (whole_of r.a *ℤ whole_of p.x) (whole_of r.b *ℤ whole_of p.y) (whole_of r.c *ℤ whole_of p.z)
    (whole_of r.d *ℤ pos (2 ^ 126))
