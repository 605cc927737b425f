-- "Add a read option for exponents: a plain decimal, then `e` or `E`, an optional sign, at least one digit." (2026-10) The written number is M over
-- 10 ^ p times 10 ^ x. A text of more than ten bytes after trimming is none, as of plain decimals.
use Rattle.std.specs.Prelude.{ℕ, suc, ◌≤◌, ◌<◌, ◌^◌, Bool, false, cond, ◌||◌, List, [], ◌∷◌, length, take, drop, leb, eqb, Option, Some, None}
use Rattle.number.specs.Trim.{trimmed}
use Rattle.number.specs.Whole.{begins, after_sign, digits_of}
use Rattle.number.specs.Decimal.{plain_of, decimal_of}
use Rattle.number.specs.declared.decimal.Decimal.{Decimal}
use Rattle.number.specs.declared.wide.Wide.{Wide}

-- `e` or `E`
unfoldable pub mark : ℕ → Bool
mark b = eqb b 101 || eqb b 69

-- where the first of them stands, or the length
unfoldable pub mark_at : List ℕ → ℕ
mark_at [] = 0
mark_at (b ∷ t) = cond (mark b) 0 (suc (mark_at t))

abbrev pub before_mark : List ℕ → List ℕ
before_mark t = take (mark_at t) t

abbrev pub behind_mark : List ℕ → List ℕ
behind_mark t = drop (suc (mark_at t)) t

-- a plain decimal with an exponent: whether that is below zero, and its size
abbrev pub wide : Decimal → Bool → ℕ → Wide
wide d lower x = record { decimal = d; lower = lower; exponent = x }

abbrev pub wide_from : Option Decimal → Bool → Option ℕ → Option Wide
wide_from None lower x = None
wide_from (Some d) lower None = None
wide_from (Some d) lower (Some x) = Some (wide d lower x)

-- a plain decimal before a mark, with an exponent behind it
unfoldable pub marked_parts : List ℕ → List ℕ → Option Wide
marked_parts t u = wide_from (plain_of (begins 45 t) (after_sign t)) (begins 45 u) (digits_of (after_sign u))

-- without a mark there are no digits behind it
unfoldable pub marked_in : List ℕ → Option Wide
marked_in t = marked_parts (before_mark t) (behind_mark t)

-- what a text says with an exponent
unfoldable pub marked_of : List ℕ → Option Wide
marked_of t = cond (leb (length (trimmed t)) 10) (marked_in (trimmed t)) None

-- a plain decimal has the exponent 0
abbrev pub without_mark : Option Decimal → Option Wide → Option Wide
without_mark (Some d) else = Some (wide d false 0)
without_mark None else = else

-- what a text says as a plain decimal, or with an exponent: whether it has a minus, M, p, and x
unfoldable pub wide_of : List ℕ → Option Wide
wide_of t = without_mark (decimal_of t) (marked_of t)

-- M and p are as small as ten bytes keep them
abbrev pub WideLimits : Option Wide → Type 0
WideLimits (Some w) = (w.decimal.digits < 10 ^ 10) × (w.decimal.places ≤ 9)
WideLimits None = Unit {0}
