-- A listing, from the words of a line's fields and faults as `saltighedda_read` leaves them, from the line's bytes and from its number: who has these
-- needs nothing else of the line. The words are taken apart as include/saltighedda.h says: "column + sort * 2^16 + places * 2^24; and the value",
-- "kind + fault * 2^8 + sort * 2^16 + place * 2^32 + length * 2^48". A row's bytes are those of 01.
use Rattle.std.specs.Prelude.{ℕ, suc, ◌+◌, ◌-◌, ◌/◌, ◌%◌, ◌^◌, cond, List, [], ◌∷◌, ◌++◌, ℤ, pos, negsuc, get_or, drop, ltb, eqb}
use Rattle.kind.specs.Kind.{names}
use Rattle.kind.specs.Name.{name_at, word}
use Rattle.layout.specs.Label.{feed, head_rows, number_row, three_row}
use Rattle.line.specs.Bytes.{bytes}
use Rattle.line.specs.Text.{within_of}
use Rattle.page.specs.Numerals.{decimal, signed_decimal, hex16, escaped}

-- two's complement
abbrev pub signed_in : ℕ → ℤ
signed_in w = cond (ltb w (2 ^ 63)) (pos w) (negsuc (2 ^ 64 - suc w))

-- what a value shows, by its sort, from 0 on: unsigned, signed, a real's bits, a text by its place and length, a character, a flag
unfoldable pub value_said : List ℕ → ℕ → ℕ → List ℕ
value_said l w sort =
    get_or
    (decimal w
    ∷ signed_decimal (signed_in w)
    ∷ hex16 w
    ∷ escaped (within_of l (w / 2 ^ 32) (w % 2 ^ 32))
    ∷ escaped (cond (eqb w 256) 32 w ∷ [])
    ∷ ((48 + w) ∷ [])
    ∷ [])
    sort
    []

-- the row that a field's two words say
unfoldable pub row_said : List ℕ → ℕ → ℕ → List ℕ
row_said l head w = bytes "f" ++ decimal (head % 2 ^ 16) ++ bytes "=" ++ value_said l w (head / 2 ^ 16 % 2 ^ 8) ++ feed

-- the row that a fault's two words say
unfoldable pub fault_said : ℕ → ℕ → List ℕ
fault_said line w = three_row (bytes "fault=") (w / 2 ^ 8 % 2 ^ 8) (w / 2 ^ 32 % 2 ^ 16) (w / 2 ^ 48)

-- what so many pairs of words say, one behind the other
unfoldable pub pairs : (ℕ → ℕ → List ℕ) → ℕ → List ℕ → List ℕ
pairs says ℕ.zero ws = []
pairs says (suc n) [] = []
pairs says (suc n) (a ∷ []) = []
pairs says (suc n) (a ∷ b ∷ ws) = says a b ++ pairs says n ws

-- the listing of a line that has a number, from the words of its fields and of its faults
unfoldable pub said : ℕ → List ℕ → List ℕ → List ℕ → List ℕ
said number l fields faults =
    head_rows (word (name_at (get_or fields 0 0) names)) number
    ++ pairs (row_said l) (get_or fields 1 0) (drop 2 fields)
    ++ number_row (bytes "faults=") (get_or faults 0 0)
    ++ pairs fault_said (get_or faults 0 0) (drop 1 faults)
