-- What the definitions give at their edges, so that no wrong constant in them goes unseen.
-- Assumes nothing.
use Prim.Native.Nat.{ℕ}
use Prim.Native.String.{String}
use Prim.Native.Char.{code}
use mathlib.Core.Path.{◌≡◌, refl}
use mathlib.Core.List.{List, [], ◌∷◌}
use lib.IntN.{pos, negsuc}
use Rattle.page.specs.Numerals.{decimal_before, decimal, signed_decimal, hex_digit, hex_before, hex16, plain, shown, escaped}
use Rattle.page.specs.Page.{page, put_byte, put}

-- the bytes of a text
abbrev text : String → List ℕ
text String.[] = []
text (String.◌∷◌ c s) = code c ∷ text s

pub decimals : (decimal 0 ≡ text "0") × (decimal 9 ≡ text "9") × (decimal 10 ≡ text "10") × (decimal 2026 ≡ text "2026")
    × (decimal 18446744073709551615 ≡ text "18446744073709551615")
unfolding decimal decimal_before
decimals = (refl, refl, refl, refl, refl)

pub signed-decimals : (signed_decimal (pos 0) ≡ text "0") × (signed_decimal (pos 9223372036854775807) ≡ text "9223372036854775807")
    × (signed_decimal (negsuc 0) ≡ text "-1") × (signed_decimal (negsuc 9223372036854775807) ≡ text "-9223372036854775808")
unfolding signed_decimal decimal decimal_before
signed-decimals = (refl, refl, refl, refl)

-- the bits of 0.0, 1.5, and sixteen different digits
pub hex16s : (hex16 0 ≡ text "0000000000000000") × (hex16 4609434218613702656 ≡ text "3FF8000000000000")
    × (hex16 81985529216486895 ≡ text "0123456789ABCDEF")
unfolding hex16 hex_before hex_digit
hex16s = (refl, refl, refl)

pub escapeds : (escaped (text " ~A%") ≡ text " ~A%25") × (escaped (0 ∷ 10 ∷ 31 ∷ 127 ∷ 255 ∷ []) ≡ text "%00%0A%1F%7F%FF")
unfolding escaped shown plain hex_digit
escapeds = (refl, refl)

-- the last byte fits, the next changes nothing, and both count
pub puts : put (page (1 ∷ 2 ∷ 3 ∷ []) 2) (7 ∷ 8 ∷ []) ≡ page (1 ∷ 2 ∷ 7 ∷ []) 4
unfolding put put_byte
puts = refl

pub counts : put (page (1 ∷ []) 18446744073709551614) (7 ∷ 8 ∷ []) ≡ page (1 ∷ []) 18446744073709551615
unfolding put put_byte
counts = refl
