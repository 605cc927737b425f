-- "`f` with each present field's first column. Reals are 16 upper-case hex digits of their bits; given is 1 or 0; bytes outside 32..126 and `%`
-- are `%` with two upper-case hex digits." A row is `f`, the column, `=`, the value and LF. An unreached character that isn't absent shows
-- as one blank.
use Rattle.std.specs.Prelude.{ℕ, Bool, true, false, cond, List, [], ◌∷◌, ◌++◌}
use Rattle.std.specs.Float.{binary64}
use Rattle.std.specs.Float.Ieee.{to_bits}
use Rattle.line.specs.Text.{view_of}
use Rattle.line.specs.declared.text.Character.{Character}
use Rattle.line.specs.declared.text.Character.TheVariants.{At, Unreached, Absent}
use Rattle.line.specs.declared.text.Field.{Field}
use Rattle.line.specs.declared.text.Field.TheVariants as field
use Rattle.page.specs.Numerals.{decimal, signed_decimal, hex16, escaped}
use Rattle.layout.specs.Each.{each}
use Rattle.row.specs.declared.Row.{Row}
use Rattle.row.specs.declared.Value.{Value}
use Rattle.row.specs.declared.Value.TheVariants.{Unsigned, Signed, Real, Factor, Words, One, Flag, Nothing}

abbrev pub present_character : Character → Bool
present_character (At place) = true
present_character Unreached = true
present_character Absent = false

-- an absent character has no row, nor has a part that wasn't read
abbrev pub present : Value → Bool
present (Unsigned n) = true
present (Signed n) = true
present (Real x places) = true
present (Factor x) = true
present (Words t) = true
present (One c) = present_character c
present (Flag b) = true
present Nothing = false

-- the bytes of a text or a character
abbrev pub field_bytes : List ℕ → Field → List ℕ
field_bytes l f = escaped (view_of l (32 ∷ []) f)

abbrev pub value_bytes : List ℕ → Value → List ℕ
value_bytes l (Unsigned n) = decimal n
value_bytes l (Signed n) = signed_decimal n
value_bytes l (Real x places) = hex16 (to_bits binary64 x)
value_bytes l (Factor x) = hex16 (to_bits binary64 x)
value_bytes l (Words t) = field_bytes l (field.Words t)
value_bytes l (One c) = field_bytes l (field.One c)
value_bytes l (Flag b) = cond b 49 48 ∷ []
value_bytes l Nothing = []

unfoldable pub row_bytes : List ℕ → Row → List ℕ
row_bytes l r = cond (present r.1) (102 ∷ [] ++ decimal r.0 ++ 61 ∷ [] ++ value_bytes l r.1 ++ 10 ∷ []) []

abbrev pub rows_bytes : List ℕ → List Row → List ℕ
rows_bytes l rows = each (row_bytes l) rows
