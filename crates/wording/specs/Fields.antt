-- "Two words a field, present fields by ascending column as in the listing: the first is column + sort * 2^16 + places * 2^24, the second the value.
-- Sorts: 0 unsigned; 1 signed, two's complement; 2 real, the double's bits; 3 text, place * 2^32 + length; 4 character, the byte, or 256 where the
-- line doesn't reach it; 5 flag. places is 0 but for R fields."
use Rattle.std.specs.Prelude.{ℕ, suc, ◌+◌, ◌-◌, ◌*◌, ◌/◌, ◌%◌, ◌^◌, ◌≡◌, Bool, cond, List, [], ◌∷◌, ◌++◌, ℤ, pos, negsuc, length, get_or, drop, ltb}
use Rattle.std.specs.Float.{binary64}
use Rattle.std.specs.Float.Ieee.{to_bits}
use Rattle.line.specs.declared.text.Character.{Character}
use Rattle.line.specs.declared.text.Character.TheVariants.{At, Unreached, Absent}
use Rattle.line.specs.declared.text.Text.{Text}
use Rattle.row.specs.declared.Row.{Row}
use Rattle.row.specs.declared.Value.{Value}
use Rattle.row.specs.declared.Value.TheVariants.{Unsigned, Signed, Real, Factor, Words, One, Flag, Nothing}
use Rattle.kind.specs.Kind.{number_of}
use Rattle.layout.specs.Each.{each}
use Rattle.lexitem.specs.Describe.{fields_of, kind_of_item}
use Rattle.lexitem.specs.declared.item.LexItem.{LexItem}

abbrev pub head_word : ℕ → ℕ → ℕ → ℕ
head_word column sort places = column + sort * 2 ^ 16 + places * 2 ^ 24

abbrev pub twos : ℤ → ℕ
twos (pos n) = n
twos (negsuc n) = 2 ^ 64 - suc n

-- a line that is read has at most 1,024 bytes, so that both stand in their halves as they are
abbrev pub text_word : Text → ℕ
text_word t = t.place % 2 ^ 32 * 2 ^ 32 + t.length % 2 ^ 32

abbrev pub flag_word : Bool → ℕ
flag_word b = cond b 1 0

abbrev pub character_words : List ℕ → ℕ → Character → List ℕ
character_words l column (At place) = head_word column 4 0 ∷ get_or l place 256 ∷ []
character_words l column Unreached = head_word column 4 0 ∷ 256 ∷ []
character_words l column Absent = []

abbrev pub value_words : List ℕ → ℕ → Value → List ℕ
value_words l column (Unsigned n) = head_word column 0 0 ∷ n ∷ []
value_words l column (Signed n) = head_word column 1 0 ∷ twos n ∷ []
value_words l column (Real x places) = head_word column 2 places ∷ to_bits binary64 x ∷ []
value_words l column (Factor x) = head_word column 2 0 ∷ to_bits binary64 x ∷ []
value_words l column (Words t) = head_word column 3 0 ∷ text_word t ∷ []
value_words l column (One c) = character_words l column c
value_words l column (Flag b) = head_word column 5 0 ∷ flag_word b ∷ []
value_words l column Nothing = []

unfoldable pub row_words : List ℕ → Row → List ℕ
row_words l row = value_words l row.0 row.1

abbrev pub rows_words : List ℕ → List Row → List ℕ
rows_words l rows = each (row_words l) rows

-- "fields[0] is the kind number, fields[1] the number n of fields", which is half of the words that follow
unfoldable pub field_words : List ℕ → LexItem → List ℕ
field_words l item = number_of (kind_of_item item) ∷ length (rows_words l (fields_of item)) / 2 ∷ rows_words l (fields_of item)

-- words at the front of lent ones
abbrev pub over : List ℕ → List ℕ → List ℕ
over words old = words ++ drop (length words) old

-- what is left of lent words by those that are to go to their front: there have to be 34
pub record Fills (before words after : List ℕ) : Type 0 where
  pub leaves : after ≡ cond (ltb (length before) 34) before (over words before)
