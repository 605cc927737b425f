-- The bytes that show a number or a text: decimal digits, 16 upper-case hex digits, and a text whose "bytes outside 32..126 and `%` are
-- `%` with two upper-case hex digits".
use Rattle.std.specs.Prelude.{ℕ, zero, suc, ◌+◌, ◌/◌, ◌%◌, Bool, cond, ◌&&◌, not, List, [], ◌∷◌, ◌++◌, leb, ltb, eqb, ℤ, pos, negsuc}

-- the digits of a number in front of a text, at most k of them
unfoldable pub decimal_before : ℕ → ℕ → List ℕ → List ℕ
decimal_before zero n t = t
decimal_before (suc k) n t = cond (ltb n 10) ((48 + n) ∷ t) (decimal_before k (n / 10) ((48 + n % 10) ∷ t))

-- the digits of a number below 2^64, which has twenty at most: `0` for 0
unfoldable pub decimal : ℕ → List ℕ
decimal n = decimal_before 20 n []

-- the same behind a `-` where the number is below zero
unfoldable pub signed_decimal : ℤ → List ℕ
signed_decimal (pos n) = decimal n
signed_decimal (negsuc n) = 45 ∷ decimal (suc n)

-- the hex digits: `0` to `9`, then `A` to `F`
unfoldable pub hex_digit : ℕ → ℕ
hex_digit d = cond (ltb d 10) (48 + d) (55 + d)

-- the last k hex digits of a number in front of a text
unfoldable pub hex_before : ℕ → ℕ → List ℕ → List ℕ
hex_before zero n t = t
hex_before (suc k) n t = hex_before k (n / 16) (hex_digit (n % 16) ∷ t)

-- the sixteen hex digits of a number below 2^64, the most significant first
unfoldable pub hex16 : ℕ → List ℕ
hex16 n = hex_before 16 n []

-- bytes 32 to 126 other than `%` stand as themselves
unfoldable pub plain : ℕ → Bool
plain b = leb 32 b && leb b 126 && not (eqb b 37)

-- any other byte is `%` and two hex digits
unfoldable pub shown : ℕ → List ℕ
shown b = cond (plain b) (b ∷ []) (37 ∷ hex_digit (b / 16) ∷ hex_digit (b % 16) ∷ [])

unfoldable pub escaped : List ℕ → List ℕ
escaped [] = []
escaped (b ∷ t) = shown b ++ escaped t
