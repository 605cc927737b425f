-- What a text says as R, with "how many digits stood after the point", which is p; and as one of ANISOU's six: "I, each made a double and divided by
-- 10000.0".
use Rattle.std.specs.Prelude.{ℕ, ◌+◌, ◌*◌, ◌/◌, ◌^◌, ◌≤◌, ◌<◌, ◌≡◌, cond, ◌-◌, ◌||◌, List, length, leb, ltb, eqb, ℤ, pos, Float, Option, Some, None, option_map}
use Rattle.std.specs.Float.{binary64}
use Rattle.std.specs.Float.Ieee.{div, of_int}
use Rattle.number.specs.Whole.{signed_of}
use Rattle.number.specs.Decimal.{plain, decimal_of}
use Rattle.number.specs.Word.{none, minus_in, front_in, behind_in}
use Rattle.real.specs.Double.{double_of}
use Rattle.number.specs.declared.decimal.Decimal.{Decimal}
use Rattle.real.specs.declared.Real.{Real}

abbrev pub real : Float → ℕ → Real
real x p = record { value = x; places = p }

-- the double of a plain decimal, and its places
abbrev pub real_from : Decimal → Real
real_from d = real (double_of d.minus d.digits d.places) d.places

-- what a text says as R
unfoldable pub real_of : List ℕ → Option Real
real_of t = option_map real_from (decimal_of t)

-- an integer made a double and divided by 10000.0, which is 10 ^ 4 converted
unfoldable pub ten_thousandth : ℤ → Float
ten_thousandth n = div binary64 (of_int binary64 n) (of_int binary64 (pos (10 ^ 4)))

-- what a text of up to seven columns says in ten-thousandths; one of more columns says nothing
unfoldable pub ten_thousandths_of : List ℕ → Option Float
ten_thousandths_of t = cond (leb (length t) 7) (option_map ten_thousandth (signed_of t)) None

-- ---- the words of the helpers
-- M and p of a plain decimal are as small as ten bytes keep them
abbrev pub Few : Decimal → Type 0
Few d = (d.digits < 10 ^ 10) × (d.places ≤ 9)

-- what was read of a word with so many digits behind the point, three at most
unfoldable pub coded_of : ℕ → ℕ → Option Real
coded_of p c = cond (eqb c none || ltb 3 p) None (Some (real_from (plain (minus_in c) (front_in c * 10 ^ p + behind_in c / 10 ^ (3 - p)) p)))

-- a double and its places, if they were read, are what the text says
abbrev pub SaysReal : List ℕ → Option Real → Type 0
SaysReal t (Some r) = real_of t ≡ Some r
SaysReal t None = Unit {0}
