-- "HEADER: X 10..50, 50..59, 62..66."
use Rattle.std.specs.Prelude.{◌-◌, List, [], ◌∷◌}
use Rattle.field.specs.Table.{Entry, table_noted}
use Rattle.field.specs.Table.Entry.{x}
use Rattle.line.specs.Columns.{◌⋯◌}
use Rattle.line.specs.Faults.{no_faults}
use Rattle.line.specs.Given.{Given}
use Rattle.line.specs.declared.columns.Columns.{Columns}
use Rattle.line.specs.declared.fault.Got.{Got}
use Rattle.line.specs.declared.text.Text.{Text}
use Rattle.row.specs.Rows.{◌is◌}
use Rattle.row.specs.declared.Row.{Row}
use Rattle.row.specs.declared.Value.TheVariants.{Words}
use Rattle.header.specs.declared.record.Header.{Header}

-- the columns by name, for the record and its rows; the table has them in numbers
pub data Field : Type 0 where
  classification date code : Field

abbrev pub at : Field → Columns
at classification = 10 ⋯ 50
at date = 50 ⋯ 59
at code = 62 ⋯ 66

abbrev pub header_table : List Entry
header_table = x (10 ⋯ 50) ∷ x (50 ⋯ 59) ∷ x (62 ⋯ 66) ∷ []

-- X is the columns as they stand, as a text
abbrev pub standing : Columns → Text
standing columns = record { place = columns.start; length = columns.end - columns.start }

abbrev pub header_of : Header
header_of = record { classification = standing (at classification); date = standing (at date); code = standing (at code) }

abbrev pub got_header : Given → Got Header
got_header g = record { value = header_of; faults = table_noted g header_table no_faults }

abbrev pub header_fields : Header → List Row
header_fields v =
    (at classification).start is Words v.classification ∷ (at date).start is Words v.date ∷ (at code).start is Words v.code ∷ []
