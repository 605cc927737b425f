-- "U: an optional `+` and one or more digits, at most 2^64-1. I: the same with `+` or `-`, within 64 bits."
use Rattle.std.specs.Prelude.{ℕ, ◌+◌, ◌-◌, ◌*◌, ◌^◌, Bool, true, false, cond, ◌&&◌, ◌||◌, List, [], ◌∷◌, length, drop, leb, ltb, eqb, ℤ, pos, neg_ℤ, Option, Some, None}
use Rattle.number.specs.Trim.{trimmed}
use Rattle.number.specs.declared.whole.Run.{Run}

-- bytes 48 to 57
unfoldable pub digit : ℕ → Bool
digit b = leb 48 b && leb b 57

-- every byte is a digit
unfoldable pub digits : List ℕ → Bool
digits [] = true
digits (b ∷ t) = digit b && digits t

-- one or more digits
abbrev pub some_digits : List ℕ → Bool
some_digits t = ltb 0 (length t) && digits t

-- the number m with one more digit behind it, and with all of a text's
abbrev pub joined : ℕ → ℕ → ℕ
joined m b = m * 10 + (b - 48)

unfoldable pub value_from : ℕ → List ℕ → ℕ
value_from m [] = m
value_from m (b ∷ t) = value_from (joined m b) t

-- the number that digits say
abbrev pub value_of : List ℕ → ℕ
value_of t = value_from 0 t

-- whether a text begins with the byte b
unfoldable pub begins : ℕ → List ℕ → Bool
begins b [] = false
begins b (x ∷ t) = eqb x b

-- a text behind its plus, and behind its sign, if it has one
unfoldable pub after_plus : List ℕ → List ℕ
after_plus t = drop (cond (begins 43 t) 1 0) t

unfoldable pub after_sign : List ℕ → List ℕ
after_sign t = drop (cond (begins 43 t || begins 45 t) 1 0) t

-- one or more digits, at most 2^64-1
unfoldable pub digits_of : List ℕ → Option ℕ
digits_of t = cond (some_digits t && ltb (value_of t) (2 ^ 64)) (Some (value_of t)) None

-- what a text says as U
unfoldable pub unsigned_of : List ℕ → Option ℕ
unsigned_of t = digits_of (after_plus (trimmed t))

-- 64 bits hold the numbers from -2^63 to 2^63-1
abbrev pub most : Bool → ℕ
most false = 2 ^ 63 - 1
most true = 2 ^ 63

-- a number behind a minus, or not
abbrev pub with_sign : Bool → ℕ → ℤ
with_sign false n = pos n
with_sign true n = neg_ℤ (pos n)

unfoldable pub signed_digits : Bool → List ℕ → Option ℤ
signed_digits minus t = cond (some_digits t && leb (value_of t) (most minus)) (Some (with_sign minus (value_of t))) None

-- what a text says as I
unfoldable pub signed_of : List ℕ → Option ℤ
signed_of t = signed_digits (begins 45 (trimmed t)) (after_sign (trimmed t))

-- ---- the words of the helpers
-- a digit that keeps the number below 2^64
unfoldable pub joins : ℕ → ℕ → Bool
joins m b = digit b && ltb (joined m b) (2 ^ 64)

-- the digits at the front, i of them read already, that keep the number below 2^64
unfoldable pub run_of : ℕ → ℕ → List ℕ → Run
run_of m i [] = record { value = m; count = i }
run_of m i (b ∷ t) = cond (joins m b) (run_of (joined m b) (i + 1) t) (record { value = m; count = i })

-- a whole number below 2^64 as I, behind a minus or not
unfoldable pub signed_from : Bool → ℕ → Option ℤ
signed_from minus n = cond (leb n (most minus)) (Some (with_sign minus n)) None
