-- "R, plain decimal: an optional sign, digits, an optional point, digits, with at least one digit. A field is at most ten wide, so the
-- written number is a whole M below 10^10 over 10^p, p at most 9." A text of more than ten bytes after trimming is no plain decimal.
use Rattle.std.specs.Prelude.{ℕ, Bool, cond, List, [], ◌∷◌, ◌++◌, length, leb, eqb, Option, Some, None}
use Rattle.number.specs.Trim.{trimmed}
use Rattle.number.specs.Whole.{some_digits, value_of, begins, after_sign}
use Rattle.number.specs.declared.decimal.Decimal.{Decimal}

-- the bytes before the first point, and those behind it
unfoldable pub before_point : List ℕ → List ℕ
before_point [] = []
before_point (b ∷ t) = cond (eqb b 46) [] (b ∷ before_point t)

unfoldable pub behind_point : List ℕ → List ℕ
behind_point [] = []
behind_point (b ∷ t) = cond (eqb b 46) t (behind_point t)

unfoldable pub without_point : List ℕ → List ℕ
without_point t = before_point t ++ behind_point t

-- without its point a plain decimal is one or more digits: M is what they say, and p how many of them stood behind the point
abbrev pub plain : Bool → ℕ → ℕ → Decimal
plain s m p = record { minus = s; digits = m; places = p }

unfoldable pub plain_of : Bool → List ℕ → Option Decimal
plain_of minus t = cond (some_digits (without_point t)) (Some (plain minus (value_of (without_point t)) (length (behind_point t)))) None

-- what a text says as a plain decimal: whether it has a minus, M and p
unfoldable pub decimal_of : List ℕ → Option Decimal
decimal_of t = cond (leb (length (trimmed t)) 10) (plain_of (begins 45 (trimmed t)) (after_sign (trimmed t))) None
