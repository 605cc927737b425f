-- "The records, views' bytes, faults and refusals are the same": what the views of a line's record show. A record's texts and characters are those
-- of its rows, SEQRES's triples among them.
use Rattle.std.specs.Prelude.{ℕ, List, [], ◌∷◌, map}
use Rattle.lexer.specs.Refusals.{Input, kind, given}
use Rattle.lexitem.specs.Describe.{item_of, fields_of}
use Rattle.line.specs.Text.{view_of}
use Rattle.line.specs.declared.text.Field.{Field}
use Rattle.line.specs.declared.text.Field.TheVariants as field
use Rattle.row.specs.declared.Row.{Row}
use Rattle.row.specs.declared.Value.{Value}
use Rattle.row.specs.declared.Value.TheVariants.{Unsigned, Signed, Real, Factor, Words, One, Flag, Nothing}

-- a text or a character, before others
abbrev pub viewed : Value → List Field → List Field
viewed (Words text) others = field.Words text ∷ others
viewed (One character) others = field.One character ∷ others
viewed (Unsigned n) others = others
viewed (Signed n) others = others
viewed (Real y places) others = others
viewed (Factor y) others = others
viewed (Flag b) others = others
viewed Nothing others = others

abbrev pub views_of : List Row → List Field
views_of [] = []
views_of (row ∷ rest) = viewed row.1 (views_of rest)

-- the bytes in every view of a line's record, with a stand-in
abbrev pub seen : Input → List ℕ → List (List ℕ)
seen i standIn = map (view_of i.line standIn) (views_of (fields_of (item_of (kind i) (given i))))
