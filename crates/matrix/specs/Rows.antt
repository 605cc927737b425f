-- "Collect rows 0 to 2 of SCALE, ORIGX or MTRIX; a later row replaces an earlier one of its number, and a matrix is handed out exactly when all
-- three are set. Refusals, each with place and length 0 and the state unchanged: 13 a row number above 2; 14 matrix asked for with a row unset."
use Rattle.std.specs.Prelude.{ℕ, zero, suc, Option, Some, None, Result, Ok, Err}
use Rattle.transformation.specs.declared.record.Transformation.{Transformation}
use Rattle.matrix.specs.declared.Rows.{Rows}
use Rattle.matrix.specs.declared.Matrix.{Matrix}
use Rattle.matrix.specs.declared.NoSuchRow.{NoSuchRow}

abbrev pub no_rows : Rows
no_rows = record { first = None; second = None; third = None }

-- the row of a number, if it is set; there is none above 2
abbrev pub slot_of : Rows → ℕ → Option Transformation
slot_of m zero = m.first
slot_of m (suc zero) = m.second
slot_of m (suc (suc zero)) = m.third
slot_of m (suc (suc (suc n))) = None

abbrev pub with_row : Rows → ℕ → Transformation → Result Rows NoSuchRow
with_row m zero r = Ok (record { first = Some r; second = m.second; third = m.third })
with_row m (suc zero) r = Ok (record { first = m.first; second = Some r; third = m.third })
with_row m (suc (suc zero)) r = Ok (record { first = m.first; second = m.second; third = Some r })
with_row m (suc (suc (suc n))) r = Err (record { rows = m })

abbrev pub whole_by : Option Transformation → Option Transformation → Option Transformation → Option Matrix
whole_by None b c = None
whole_by (Some a) None c = None
whole_by (Some a) (Some b) None = None
whole_by (Some a) (Some b) (Some c) = Some (record { first = a; second = b; third = c })

abbrev pub whole : Rows → Option Matrix
whole m = whole_by m.first m.second m.third

-- 02's number, place and length of an answer; 0 stands for one that is no refusal
abbrev pub numbers_of_row : Result Rows NoSuchRow → ℕ × ℕ × ℕ
numbers_of_row (Ok m) = (0, 0, 0)
numbers_of_row (Err m) = (13, 0, 0)

abbrev pub numbers_of_whole : Option Matrix → ℕ × ℕ × ℕ
numbers_of_whole (Some m) = (0, 0, 0)
numbers_of_whole None = (14, 0, 0)
