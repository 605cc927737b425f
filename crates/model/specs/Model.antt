-- "MODEL: U 6..len." In wwPDB mode "MODEL's serial is 10..14 there", and "a wwPDB MODEL line shorter than 14 gets fault 1 and number 0".
use Rattle.std.specs.Prelude.{ℕ, List, [], ◌∷◌}
use Rattle.field.specs.Number.{unsigned_at, unsigned_from}
use Rattle.field.specs.Table.{Entry, table_noted}
use Rattle.field.specs.Table.Entry.{u, u-rest}
use Rattle.line.specs.Columns.{◌⋯◌}
use Rattle.line.specs.Faults.{no_faults}
use Rattle.line.specs.Given.{Given}
use Rattle.line.specs.declared.columns.Columns.{Columns}
use Rattle.line.specs.declared.fault.Got.{Got}
use Rattle.line.specs.declared.options.Mode.{Mode}
use Rattle.line.specs.declared.options.Mode.TheVariants.{Crate, WwPdb}
use Rattle.row.specs.Rows.{◌is◌}
use Rattle.row.specs.declared.Row.{Row}
use Rattle.row.specs.declared.Value.TheVariants.{Unsigned}
use Rattle.model.specs.declared.record.Model.{Model}

-- the columns by name, for the record and its row; the table has them in numbers
abbrev pub number_from : ℕ
number_from = 6

abbrev pub serial_at : Columns
serial_at = 10 ⋯ 14

abbrev pub model_table : Mode → List Entry
model_table Crate = u-rest 6 ∷ []
model_table WwPdb = u (10 ⋯ 14) ∷ []

abbrev pub number_by : Mode → List ℕ → ℕ
number_by Crate l = unsigned_from l number_from
number_by WwPdb l = unsigned_at l serial_at

-- a record says by which mode it was read
abbrev pub model_of : Mode → List ℕ → Model
model_of mode l = record { number = number_by mode l; mode = mode }

abbrev pub got_model : Given → Got Model
got_model g =
    let mode = g.options.mode in
    record { value = model_of mode g.line; faults = table_noted g (model_table mode) no_faults }

-- the number's first column
abbrev pub column_by : Mode → ℕ
column_by Crate = number_from
column_by WwPdb = serial_at.start

abbrev pub model_fields : Model → List Row
model_fields v = column_by v.mode is Unsigned v.number ∷ []
