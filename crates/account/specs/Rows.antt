-- For the laws: the rows of a text, what a row's own bytes say of the columns that it points at, and what a record's value is called.
use Rattle.std.specs.Prelude.{ℕ, suc, Bool, false, cond, not, ◌&&◌, ◌||◌, List, [], ◌∷◌, eqb, Float, pos, negsuc}
use Rattle.std.specs.Float.{nan, inf, fin}
use Rattle.line.specs.Bytes.{bytes}
use Rattle.line.specs.declared.text.Character.{Character}
use Rattle.line.specs.declared.text.Character.TheVariants.{At, Unreached, Absent}
use Rattle.page.specs.Numerals.{decimal, signed_decimal}
use Rattle.row.specs.declared.Value.{Value}
use Rattle.row.specs.declared.Value.TheVariants.{Unsigned, Signed, Real, Factor, Words, One, Flag, Nothing}

-- a byte in front of the first row
abbrev pub joined : ℕ → List (List ℕ) → List (List ℕ)
joined b [] = (b ∷ []) ∷ []
joined b (r ∷ rs) = (b ∷ r) ∷ rs

-- a row goes up to an LF, which is its last byte
unfoldable pub rows_of : List ℕ → List (List ℕ)
rows_of [] = []
rows_of (b ∷ t) = cond (eqb b 10) ((b ∷ []) ∷ rows_of t) (joined b (rows_of t))

-- how many of a byte a text begins with
unfoldable pub leading : ℕ → List ℕ → ℕ
leading b [] = 0
leading b (x ∷ t) = cond (eqb x b) (suc (leading b t)) 0

-- whether a fault's place is of the field that begins at a column: a charge's two faults name either of its columns
abbrev pub is_of : ℕ → ℕ → Bool
is_of column place = eqb column place || (eqb column 78 && eqb place 79)

-- ---- a value that was put somewhere, in words
-- a double that is a whole number
abbrev pub is_whole : ℕ → Float → Bool
is_whole n nan = false
is_whole n (inf s) = false
is_whole n (fin s m (pos e)) = not s && eqb m n && eqb e 0
is_whole n (fin s m (negsuc e)) = false

abbrev pub real_called : Float → List ℕ
real_called y = cond (is_whole 0 y) (bytes "0.0") (cond (is_whole 1 y) (bytes "1.0") [])

abbrev pub character_called : Character → List ℕ
character_called (At place) = []
character_called Unreached = bytes "a blank"
character_called Absent = bytes "nothing"

abbrev pub called : Value → List ℕ
called (Unsigned n) = decimal n
called (Signed n) = signed_decimal n
called (Real y places) = real_called y
called (Factor y) = real_called y
called (Words t) = cond (eqb t.length 0) (bytes "no text") []
called (One character) = character_called character
called (Flag b) = []
called Nothing = []
