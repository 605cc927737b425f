-- "SEQRES: U 7..10, C 11, U 13..17, X triples. Triples start at 19, 23, .. 67, while start+3 is at most min(len, 71), and stop at the first
-- three blanks; they aren't trimmed."
use Rattle.std.specs.Prelude.{ℕ, ◌+◌, ◌*◌, suc, Bool, cond, not, ◌&&◌, Option, Some, None, List, [], ◌∷◌, length, get_or, leb, ltb, eqb}
use Rattle.field.specs.Number.{unsigned_at}
use Rattle.field.specs.Table.{Entry, table_noted}
use Rattle.field.specs.Table.Entry.{u, c, triples}
use Rattle.field.specs.Text.{character_at}
use Rattle.line.specs.Columns.{◌⋯◌, only}
use Rattle.line.specs.Faults.{no_faults}
use Rattle.line.specs.Given.{Given}
use Rattle.line.specs.declared.columns.Columns.{Columns}
use Rattle.line.specs.declared.fault.Got.{Got}
use Rattle.line.specs.declared.text.Text.{Text}
use Rattle.row.specs.Rows.{◌is◌}
use Rattle.row.specs.declared.Row.{Row}
use Rattle.row.specs.declared.Value.TheVariants.{Unsigned, Words, One, Nothing}
use Rattle.seqres.specs.declared.record.Seqres.{Seqres}

-- the columns by name, for the record and its rows; the table has them in numbers
pub data Field : Type 0 where
  serial chain residues : Field

abbrev pub at : Field → Columns
at serial = 7 ⋯ 10
at chain = only 11
at residues = 13 ⋯ 17

-- the column of the triple that has an index, from 0 on
abbrev pub triple_at : ℕ → ℕ
triple_at index = 19 + 4 * index

abbrev pub seqres_table : List Entry
seqres_table = u (7 ⋯ 10) ∷ c (only 11) ∷ u (13 ⋯ 17) ∷ triples 19 ∷ []

-- three blanks at a column
unfoldable pub blank_triple : List ℕ → ℕ → Bool
blank_triple l column = eqb (get_or l column 0) 32 && eqb (get_or l (column + 1) 0) 32 && eqb (get_or l (column + 2) 0) 32

-- how many triples stand from a column on, of the k that could
unfoldable pub triples_from : ℕ → ℕ → List ℕ → ℕ
triples_from ℕ.zero column l = 0
triples_from (suc k) column l =
    cond (leb (column + 3) (length l) && not (blank_triple l column)) (suc (triples_from k (column + 4) l)) 0

-- thirteen start from 19 to 67; the last ends at 70, below 71, so that only the line's length counts
abbrev pub triples_of : List ℕ → ℕ
triples_of l = triples_from 13 (triple_at 0) l

abbrev pub seqres_of : List ℕ → Seqres
seqres_of l = record {
  serial = unsigned_at l (at serial);
  chain = character_at l (at chain).start;
  residues = unsigned_at l (at residues);
  triples = triples_of l;
}

abbrev pub got_seqres : Given → Got Seqres
got_seqres g = record { value = seqres_of g.line; faults = table_noted g seqres_table no_faults }

abbrev pub triple_text : ℕ → Text
triple_text index = record { place = triple_at index; length = 3 }

-- where the triple of an index lies, of so many; at most thirteen start by 67
unfoldable pub triple_of : ℕ → ℕ → Option Text
triple_of count index = cond (ltb index count && ltb index 13) (Some (triple_text index)) None

-- the row of the one that has an index, of so many; and those of k, from an index on
unfoldable pub triple_row : ℕ → ℕ → Row
triple_row count index = triple_at index is cond (ltb index count) (Words (triple_text index)) Nothing

abbrev pub triple_rows : ℕ → ℕ → ℕ → List Row
triple_rows ℕ.zero index count = []
triple_rows (suc k) index count = triple_row count index ∷ triple_rows k (index + 1) count

abbrev pub seqres_fields : Seqres → List Row
seqres_fields v =
    (at serial).start is Unsigned v.serial
    ∷ (at chain).start is One v.chain
    ∷ (at residues).start is Unsigned v.residues
    ∷ triple_rows 13 0 v.triples
