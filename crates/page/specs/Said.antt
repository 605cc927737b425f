-- What bytes say, for the laws that the bytes of a number say that number, and those of an escaped text that text.
use Rattle.std.specs.Prelude.{ℕ, ◌+◌, ◌-◌, ◌*◌, cond, List, [], ◌∷◌, ltb, eqb}

-- the number that decimal digits say, behind digits that say m
unfoldable pub decimal_said : ℕ → List ℕ → ℕ
decimal_said m [] = m
decimal_said m (b ∷ t) = decimal_said (m * 10 + (b - 48)) t

-- the value of a hex digit, and the number that such digits say, behind digits that say m
unfoldable pub hex_value : ℕ → ℕ
hex_value b = cond (ltb b 65) (b - 48) (b - 55)

unfoldable pub hex_said : ℕ → List ℕ → ℕ
hex_said m [] = m
hex_said m (b ∷ t) = hex_said (m * 16 + hex_value b) t

-- the text that an escaped one says: `%` and two hex digits are one byte
unfoldable pub unescaped : List ℕ → List ℕ
unescaped [] = []
unescaped (b ∷ []) = b ∷ []
unescaped (b ∷ h ∷ []) = b ∷ h ∷ []
unescaped (b ∷ h ∷ l ∷ t) = cond (eqb b 37) ((hex_value h * 16 + hex_value l) ∷ unescaped t) (b ∷ unescaped (h ∷ l ∷ t))
