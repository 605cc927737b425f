-- "MODRES: T 7..11 12..15, C 16, I 18..22, C 22, T 24..27 29..len."
use Rattle.std.specs.Prelude.{ℕ, List, [], ◌∷◌}
use Rattle.field.specs.Number.{signed_at}
use Rattle.field.specs.Table.{Entry, table_noted}
use Rattle.field.specs.Table.Entry.{i, t, c, c?, t-rest}
use Rattle.field.specs.Text.{text_at, text_from, character_at, optional_at}
use Rattle.line.specs.Columns.{◌⋯◌, only}
use Rattle.line.specs.Faults.{no_faults}
use Rattle.line.specs.Given.{Given}
use Rattle.line.specs.declared.columns.Columns.{Columns}
use Rattle.line.specs.declared.fault.Got.{Got}
use Rattle.row.specs.Rows.{◌is◌}
use Rattle.row.specs.declared.Row.{Row}
use Rattle.row.specs.declared.Value.TheVariants.{Signed, Words, One}
use Rattle.modres.specs.declared.record.Modres.{Modres}

-- the columns by name, for the record and its rows; the table has them in numbers
pub data Field : Type 0 where
  code residue chain number insertion standard : Field

abbrev pub at : Field → Columns
at code = 7 ⋯ 11
at residue = 12 ⋯ 15
at chain = only 16
at number = 18 ⋯ 22
at insertion = only 22
at standard = 24 ⋯ 27

abbrev pub comment_from : ℕ
comment_from = 29

abbrev pub modres_table : List Entry
modres_table = t (7 ⋯ 11) ∷ t (12 ⋯ 15) ∷ c (only 16) ∷ i (18 ⋯ 22) ∷ c? (only 22) ∷ t (24 ⋯ 27) ∷ t-rest 29 ∷ []

abbrev pub modres_of : List ℕ → Modres
modres_of l = record {
  code = text_at l (at code);
  residue = text_at l (at residue);
  chain = character_at l (at chain).start;
  number = signed_at l (at number);
  insertion = optional_at l (at insertion).start;
  standard = text_at l (at standard);
  comment = text_from l comment_from;
}

abbrev pub got_modres : Given → Got Modres
got_modres g = record { value = modres_of g.line; faults = table_noted g modres_table no_faults }

abbrev pub modres_fields : Modres → List Row
modres_fields v =
    (at code).start is Words v.code
    ∷ (at residue).start is Words v.residue
    ∷ (at chain).start is One v.chain
    ∷ (at number).start is Signed v.number
    ∷ (at insertion).start is One v.insertion
    ∷ (at standard).start is Words v.standard
    ∷ comment_from is Words v.comment
    ∷ []
