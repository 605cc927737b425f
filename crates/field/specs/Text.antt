-- Text and character fields of a line: "T trimmed text, C one character. An empty text has place 0, length 0. A blank or unreached C at ATOM 16
-- and 26, SEQADV 22, MODRES 22, SSBOND 21 and 35 means absent; elsewhere a blank is itself."
use Rattle.std.specs.Prelude.{ℕ, ◌+◌, ◌<◌, ◌≡◌, Bool, true, cond, List, [], ◌∷◌, length, get_or, ltb, eqb, Option}
use Rattle.number.specs.Trim.{span_of, kept}
use Rattle.number.specs.declared.trim.Span.{Span}
use Rattle.line.specs.Columns.{part_of, reached_of, rest_of}
use Rattle.line.specs.declared.columns.Columns.{Columns}
use Rattle.line.specs.declared.text.Text.{Text}
use Rattle.line.specs.declared.text.Character.{Character}
use Rattle.line.specs.declared.text.Character.TheVariants.{At, Unreached, Absent}
use Rattle.line.specs.declared.fault.FaultKind.TheVariants.{Short}
use Rattle.line.specs.declared.fault.Fault.{Fault}
use Rattle.line.specs.declared.fault.Faults.{Faults}
use Rattle.line.specs.declared.fault.Got.{Got}
use Rattle.field.specs.Found.{fine, got}
use Rattle.field.specs.Number.{short_at}

-- bytes from a place on, as a text: an empty one has place 0
abbrev pub text_of : ℕ → ℕ → Text
text_of place n = cond (eqb n 0) (record { place = 0; length = 0 }) (record { place = place; length = n })

-- where a part's trimmed text lies, in the line that the part starts in at a column
abbrev pub shifted : ℕ → Span → Text
shifted start s = text_of (start + s.place) s.length

-- trim keeps the whole of a part, which isn't empty, if that was seen
abbrev pub SaysWhole : List ℕ → Bool → Type 0
SaysWhole t seen = seen ≡ true → (0 < length t) × (span_of t ≡ record { place = 0; length = length t })

-- T
unfoldable pub text_at : List ℕ → Columns → Text
text_at l at = shifted at.start (span_of (part_of l at))

unfoldable pub text_faults : List ℕ → Columns → List Fault
text_faults l at = cond (ltb (length l) at.end) (short_at at ∷ []) []

-- T of what the line reaches of the columns, and T from a column to the line's end: neither has a fault
unfoldable pub text_within : List ℕ → Columns → Text
text_within l at = shifted at.start (span_of (reached_of l at))

unfoldable pub text_from : List ℕ → ℕ → Text
text_from l start = shifted start (span_of (rest_of l start))

-- the text from a column on with its end trimmed
unfoldable pub end_text_from : List ℕ → ℕ → Text
end_text_from l start = text_of start (kept (rest_of l start))

-- C, and C where a blank means absent
unfoldable pub character_at : List ℕ → ℕ → Character
character_at l column = cond (ltb column (length l)) (At column) Unreached

unfoldable pub optional_at : List ℕ → ℕ → Character
optional_at l column = cond (ltb column (length l)) (cond (eqb (get_or l column 0) 32) Absent (At column)) Absent

-- a column that the line doesn't reach is a fault, of an absent C too
abbrev pub unreached : ℕ → Fault
unreached column = record { kind = Short; place = column; length = 1 }

unfoldable pub character_faults : List ℕ → ℕ → List Fault
character_faults l column = cond (ltb column (length l)) [] (unreached column ∷ [])

-- ---- a field's value, if it has no fault
abbrev pub fine_text : List ℕ → Columns → Option Text
fine_text l at = fine (text_faults l at) (text_at l at)

abbrev pub fine_character : List ℕ → ℕ → Option Character
fine_character l column = fine (character_faults l column) (character_at l column)

abbrev pub fine_optional : List ℕ → ℕ → Option Character
fine_optional l column = fine (character_faults l column) (optional_at l column)

-- ---- a field's value beside the faults with its own noted
abbrev pub got_text : List ℕ → Columns → Faults → Got Text
got_text l at fs = got (text_at l at) (text_faults l at) fs

abbrev pub got_character : List ℕ → ℕ → Faults → Got Character
got_character l column fs = got (character_at l column) (character_faults l column) fs

abbrev pub got_optional : List ℕ → ℕ → Faults → Got Character
got_optional l column fs = got (optional_at l column) (character_faults l column) fs
