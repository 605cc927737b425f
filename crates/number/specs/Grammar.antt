-- The grammars of 01, and of exponents, as relations, for the laws that say what is accepted and that all of it is.
use Rattle.std.specs.Prelude.{ℕ, ◌^◌, ◌<◌, ◌≤◌, ◌≡◌, Bool, true, false, List, [], ◌∷◌, ◌++◌, length, ℤ}
use Rattle.number.specs.Trim.{trimmed}
use Rattle.number.specs.Whole.{digits, value_of, most, with_sign}
use Rattle.number.specs.Wide.{mark}

-- an optional `+`
pub data Plus : List ℕ → Type 0 where
  none : Plus []
  plus : Plus (43 ∷ [])

-- an optional sign, and whether it is a minus
pub data Sign : Bool → List ℕ → Type 0 where
  unsigned : Sign false []
  plus : Sign false (43 ∷ [])
  minus : Sign true (45 ∷ [])

-- an optional point, with the digits behind it
pub data Fraction : List ℕ → List ℕ → Type 0 where
  whole : Fraction [] []
  point : (d : List ℕ) → Fraction (46 ∷ d) d

-- the trimmed text is an optional `+` and one or more digits that say n, at most 2^64-1
pub record SaysU (t : List ℕ) (n : ℕ) : Type 0 where
  pub sign : List ℕ
  pub digs : List ℕ
  pub plus : Plus sign
  pub text : trimmed t ≡ sign ++ digs
  pub some : 0 < length digs
  pub each : digits digs ≡ true
  pub value : n ≡ value_of digs
  pub limit : n < 2 ^ 64

-- the trimmed text is an optional sign and one or more digits that say z, within 64 bits
pub record SaysI (t : List ℕ) (z : ℤ) : Type 0 where
  pub is_minus : Bool
  pub sign : List ℕ
  pub digs : List ℕ
  pub signed : Sign is_minus sign
  pub text : trimmed t ≡ sign ++ digs
  pub some : 0 < length digs
  pub each : digits digs ≡ true
  pub value : z ≡ with_sign is_minus (value_of digs)
  pub limit : value_of digs ≤ most is_minus

-- an optional sign, digits, an optional point and digits, with at least one digit; without the point the digits say m, and p of them stand
-- behind it
pub record SaysPlain (t : List ℕ) (is_minus : Bool) (m p : ℕ) : Type 0 where
  pub sign : List ℕ
  pub front : List ℕ
  pub tail : List ℕ
  pub behind : List ℕ
  pub signed : Sign is_minus sign
  pub fraction : Fraction tail behind
  pub text : t ≡ sign ++ front ++ tail
  pub some : 0 < length (front ++ behind)
  pub each : digits (front ++ behind) ≡ true
  pub value : m ≡ value_of (front ++ behind)
  pub places : p ≡ length behind

-- the trimmed text is that, in at most ten bytes
pub record SaysR (t : List ℕ) (is_minus : Bool) (m p : ℕ) : Type 0 where
  pub plain : SaysPlain (trimmed t) is_minus m p
  pub width : length (trimmed t) ≤ 10

-- the trimmed text is, in at most ten bytes, that, then `e` or `E`, an optional sign and at least one digit, which say the exponent x, below
-- zero or not
pub record SaysX (t : List ℕ) (is_minus : Bool) (m p : ℕ) (lower : Bool) (x : ℕ) : Type 0 where
  pub decimal : List ℕ
  pub letter : ℕ
  pub sign : List ℕ
  pub digs : List ℕ
  pub text : trimmed t ≡ decimal ++ letter ∷ (sign ++ digs)
  pub width : length (trimmed t) ≤ 10
  pub plain : SaysPlain decimal is_minus m p
  pub is_mark : mark letter ≡ true
  pub signed : Sign lower sign
  pub some : 0 < length digs
  pub each : digits digs ≡ true
  pub value : x ≡ value_of digs
