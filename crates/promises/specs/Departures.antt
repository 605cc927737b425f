-- "Each place where the two disagree goes into docs/DIFFERENCES.md." The lexer's tables as fields of the format's type, and the stated departures
-- of the one from the other.
--     fields_of_table           the fields of a table of ours
--     without                 what one list has and the other lacks
--     ours, theirs, Departs   a kind's two differences in a mode, as computed and as stated
-- Departures that aren't about columns or sorts stand in docs/DIFFERENCES.md only: an unsigned serial, a blank seqNum that is a fault, an
-- `ENDMDL` of six bytes that is END in crate mode, defaults, short lines, kinds that the lexer makes EMPTY.
use Rattle.std.specs.Prelude.{ℕ, suc, ◌+◌, Bool, true, false, cond, ◌&&◌, ◌||◌, List, [], ◌∷◌, ◌++◌, eqb}
use Rattle.line.specs.Columns.{◌⋯◌, only}
use Rattle.line.specs.declared.options.Mode.{Mode}
use Rattle.line.specs.declared.options.Mode.TheVariants.{Crate, WwPdb}
use Rattle.field.specs.Table.{Entry}
use Rattle.format.specs.Format.{Sort, FormatField, format_of}
use Rattle.format.specs.Format.Sort.{integer, real, text, character}
use Rattle.format.specs.Format.FormatField.{◌at◌, ◌from◌}
use Rattle.lexitem.specs.Describe.{table_of}
use Rattle.kind.specs.declared.Kind.{Kind}
use Rattle.kind.specs.declared.Kind.TheVariants.{Remark, Atom, Hetatm, Anisou, Cryst1, Model, Dbref, Dbref1, Dbref2, Seqadv, Modres, Ssbond, Ter}

-- ---- our tables as such fields

-- so many triples, with a column between
abbrev triples_from : ℕ → ℕ → List FormatField
triples_from ℕ.zero start = []
triples_from (suc k) start = text at start ⋯ (start + 3) ∷ triples_from k (start + 4)

-- U and I are both the format's Integer; a real is read with any number of decimals; a look into the remark table and a number that isn't written
-- are no fields
abbrev fields_of : Entry → List FormatField
fields_of (Entry.u columns) = integer at columns ∷ []
fields_of (Entry.i columns) = integer at columns ∷ []
fields_of (Entry.r columns default) = real 0 at columns ∷ []
fields_of (Entry.t columns) = text at columns ∷ []
fields_of (Entry.c columns) = character at columns ∷ []
fields_of (Entry.c? columns) = character at columns ∷ []
fields_of (Entry.a columns) = integer at columns ∷ []
fields_of (Entry.u-rest start) = integer from start ∷ []
fields_of (Entry.x columns) = text at columns ∷ []
fields_of (Entry.t_within columns) = text at columns ∷ []
fields_of (Entry.t-rest start) = text from start ∷ []
fields_of (Entry.t-end start) = text from start ∷ []
fields_of (Entry.charge columns) = text at columns ∷ []
fields_of (Entry.known columns) = []
fields_of (Entry.given column) = integer at only column ∷ []
fields_of (Entry.unwritten column) = []
fields_of (Entry.triples start) = triples_from 13 start

abbrev pub fields_of_table : List Entry → List FormatField
fields_of_table [] = []
fields_of_table (e ∷ rest) = fields_of e ++ fields_of_table rest

-- ---- the differences

abbrev sort_number : Sort → ℕ
sort_number integer = 0
sort_number (real decimals) = 1
sort_number text = 2
sort_number character = 3

-- whether two fields are the same
abbrev same : FormatField → FormatField → Bool
same (s at a) (r at b) = eqb (sort_number s) (sort_number r) && eqb a.start b.start && eqb a.end b.end
same (s at a) (r from b) = false
same (s from a) (r at b) = false
same (s from a) (r from b) = eqb (sort_number s) (sort_number r) && eqb a b

abbrev among : FormatField → List FormatField → Bool
among f [] = false
among f (g ∷ rest) = same f g || among f rest

-- the fields of the first list that the second lacks, in their order
abbrev pub without : List FormatField → List FormatField → List FormatField
without [] others = []
without (f ∷ rest) others = cond (among f others) (without rest others) (f ∷ without rest others)

-- what our table of a kind has in a mode and the format's lacks, and the reverse; a kind with a part that only some lines have is taken with it
abbrev pub ours : Mode → Kind → List FormatField
ours mode k = without (fields_of_table (table_of mode k true)) (format_of k)

abbrev pub theirs : Mode → Kind → List FormatField
theirs mode k = without (format_of k) (fields_of_table (table_of mode k true))

-- the list that docs/DIFFERENCES.md has in words: a kind, in a mode, with what is ours alone and what is theirs
pub data Departs : Mode → Kind → List FormatField → List FormatField → Type 0 where
  -- REMARK's text goes to the line's end, and so do Z, which is CRYST1's last, and the comments of SEQADV and MODRES
  remark : {mode : Mode} → Departs mode Remark (text from 11 ∷ []) (text at 11 ⋯ 79 ∷ [])
  cryst1 : {mode : Mode} → Departs mode Cryst1 (integer from 66 ∷ []) (integer at 66 ⋯ 70 ∷ [])
  modres : {mode : Mode} → Departs mode Modres (text from 29 ∷ []) (text at 29 ⋯ 70 ∷ [])
  -- the segment name of older versions is read
  atom : {mode : Mode} → Departs mode Atom (text at 72 ⋯ 76 ∷ []) []
  hetatm : {mode : Mode} → Departs mode Hetatm (text at 72 ⋯ 76 ∷ []) []
  anisou : {mode : Mode} → Departs mode Anisou (text at 72 ⋯ 76 ∷ []) []
  -- in crate mode the serial takes all that follows the name
  model : Departs Crate Model (integer from 6 ∷ []) (integer at 10 ⋯ 14 ∷ [])
  -- the chain is a text, and DBREF1's end begins a column late in crate mode
  dbref : {mode : Mode} → Departs mode Dbref (text at 12 ⋯ 13 ∷ []) (character at 12 ⋯ 13 ∷ [])
  dbref1 : Departs Crate Dbref1 (text at 12 ⋯ 13 ∷ integer at 21 ⋯ 24 ∷ []) (character at 12 ⋯ 13 ∷ integer at 20 ⋯ 24 ∷ [])
  dbref1_there : Departs WwPdb Dbref1 (text at 12 ⋯ 13 ∷ []) (character at 12 ⋯ 13 ∷ [])
  dbref2 : {mode : Mode} → Departs mode Dbref2 (text at 12 ⋯ 13 ∷ []) (character at 12 ⋯ 13 ∷ [])
  seqadv : {mode : Mode} → Departs mode Seqadv (text at 16 ⋯ 17 ∷ text from 49 ∷ []) (character at 16 ⋯ 17 ∷ text at 49 ⋯ 70 ∷ [])
  -- the serial isn't read
  ssbond : {mode : Mode} → Departs mode Ssbond [] (integer at 7 ⋯ 10 ∷ [])
  -- none is read
  ter : {mode : Mode}
      → Departs mode Ter [] (integer at 6 ⋯ 11 ∷ text at 17 ⋯ 20 ∷ character at 21 ⋯ 22 ∷ integer at 22 ⋯ 26 ∷ character at 26 ⋯ 27 ∷ [])
