-- "SEQADV: T 7..11 12..15 16..17, I 18..22, C 22, T 24..28 29..38; if 39..48 isn't all blanks, T 39..42 and I 43..48; T 49..len."
use Rattle.std.specs.Prelude.{ℕ, Bool, true, false, not, ◌&&◌, Option, Some, None, List, [], ◌∷◌, ◌++◌, eqb}
use Rattle.field.specs.Number.{signed_at}
use Rattle.field.specs.Table.{Entry, table_noted, line_noted}
use Rattle.field.specs.Table.Entry.{i, t, c?, t-rest}
use Rattle.field.specs.Text.{text_at, text_from, optional_at}
use Rattle.line.specs.Columns.{◌⋯◌, only, part_of}
use Rattle.line.specs.Faults.{no_faults}
use Rattle.line.specs.Given.{Given}
use Rattle.line.specs.declared.columns.Columns.{Columns}
use Rattle.line.specs.declared.fault.Faults.{Faults}
use Rattle.line.specs.declared.fault.Got.{Got}
use Rattle.row.specs.Rows.{◌is◌}
use Rattle.row.specs.declared.Row.{Row}
use Rattle.row.specs.declared.Value.{Value}
use Rattle.row.specs.declared.Value.TheVariants.{Signed, Words, One, Nothing}
use Rattle.seqadv.specs.declared.record.Seqadv.{Seqadv}
use Rattle.seqadv.specs.declared.record.Target.{Target}

-- the columns by name, for the record and its rows; the table has them in numbers
pub data Field : Type 0 where
  code residue chain number insertion database accession target name position : Field

-- the database's residue is a name and a position
abbrev pub at : Field → Columns
at code = 7 ⋯ 11
at residue = 12 ⋯ 15
at chain = 16 ⋯ 17
at number = 18 ⋯ 22
at insertion = only 22
at database = 24 ⋯ 28
at accession = 29 ⋯ 38
at target = 39 ⋯ 48
at name = 39 ⋯ 42
at position = 43 ⋯ 48

abbrev pub comment_from : ℕ
comment_from = 49

-- every byte of a part is a blank
unfoldable pub blanks : List ℕ → Bool
blanks [] = true
blanks (b ∷ rest) = eqb b 32 && blanks rest

-- whether the line names a residue of the database
unfoldable pub has_target : List ℕ → Bool
has_target l = not (blanks (part_of l (39 ⋯ 48)))

abbrev pub target_table : Bool → List Entry
target_table true = t (39 ⋯ 42) ∷ i (43 ⋯ 48) ∷ []
target_table false = []

abbrev pub seqadv_table : Bool → List Entry
seqadv_table named =
    t (7 ⋯ 11) ∷ t (12 ⋯ 15) ∷ t (16 ⋯ 17) ∷ i (18 ⋯ 22) ∷ c? (only 22) ∷ t (24 ⋯ 28) ∷ t (29 ⋯ 38) ∷ target_table named ++ t-rest 49 ∷ []

abbrev pub target_of : Bool → List ℕ → Option Target
target_of true l = Some (record { name = text_at l (at name); number = signed_at l (at position) })
target_of false l = None

abbrev pub seqadv_of : List ℕ → Seqadv
seqadv_of l = record {
  code = text_at l (at code);
  residue = text_at l (at residue);
  chain = text_at l (at chain);
  number = signed_at l (at number);
  insertion = optional_at l (at insertion).start;
  database = text_at l (at database);
  accession = text_at l (at accession);
  target = target_of (has_target l) l;
  comment = text_from l comment_from;
}

abbrev pub got_target : List ℕ → Faults → Got (Option Target)
got_target l fs = record { value = target_of (has_target l) l; faults = line_noted l (target_table (has_target l)) fs }

abbrev pub got_seqadv : Given → Got Seqadv
got_seqadv g = record { value = seqadv_of g.line; faults = table_noted g (seqadv_table (has_target g.line)) no_faults }

-- the residue of the database, if the line names one
abbrev pub target_name : Option Target → Value
target_name (Some other) = Words other.name
target_name None = Nothing

abbrev pub target_number : Option Target → Value
target_number (Some other) = Signed other.number
target_number None = Nothing

abbrev pub seqadv_fields : Seqadv → List Row
seqadv_fields v =
    (at code).start is Words v.code
    ∷ (at residue).start is Words v.residue
    ∷ (at chain).start is Words v.chain
    ∷ (at number).start is Signed v.number
    ∷ (at insertion).start is One v.insertion
    ∷ (at database).start is Words v.database
    ∷ (at accession).start is Words v.accession
    ∷ (at name).start is target_name v.target
    ∷ (at position).start is target_number v.target
    ∷ comment_from is Words v.comment
    ∷ []
