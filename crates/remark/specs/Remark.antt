-- "REMARK: U 7..10, text from 11 with its end trimmed (empty if length is 11 or less)." The remark number is looked up in the table, 0 if it has
-- a fault.
use Rattle.std.specs.Prelude.{ℕ, List, [], ◌∷◌}
use Rattle.field.specs.Number.{unsigned_at}
use Rattle.field.specs.Table.{Entry, table_noted}
use Rattle.field.specs.Table.Entry.{u, known, t-end}
use Rattle.field.specs.Text.{end_text_from}
use Rattle.line.specs.Columns.{◌⋯◌}
use Rattle.line.specs.Faults.{no_faults}
use Rattle.line.specs.Given.{Given}
use Rattle.line.specs.declared.columns.Columns.{Columns}
use Rattle.line.specs.declared.fault.Got.{Got}
use Rattle.row.specs.Rows.{◌is◌}
use Rattle.row.specs.declared.Row.{Row}
use Rattle.row.specs.declared.Value.TheVariants.{Unsigned, Words}
use Rattle.remark.specs.declared.record.Remark.{Remark}

-- the columns by name, for the record and its rows; the table has them in numbers
abbrev pub number_at : Columns
number_at = 7 ⋯ 10

abbrev pub text_from : ℕ
text_from = 11

abbrev pub remark_table : List Entry
remark_table = u (7 ⋯ 10) ∷ known (7 ⋯ 10) ∷ t-end 11 ∷ []

abbrev pub remark_of : List ℕ → Remark
remark_of l = record { number = unsigned_at l number_at; text = end_text_from l text_from }

abbrev pub got_remark : Given → Got Remark
got_remark g = record { value = remark_of g.line; faults = table_noted g remark_table no_faults }

abbrev pub remark_fields : Remark → List Row
remark_fields v = number_at.start is Unsigned v.number ∷ text_from is Words v.text ∷ []
