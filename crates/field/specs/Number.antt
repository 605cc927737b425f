-- Number fields of a line. "1 line ends before the field's last column; 2 text of the wrong sort. Place and length are the field's columns.
-- Defaults: 0 for U, I, 0.0 for R but 1.0 at 54..60." Columns that the line doesn't reach hold the empty part, which says no number, so a
-- field's value needs no test of its own.
use Rattle.std.specs.Prelude.{ℕ, ◌+◌, ◌-◌, ◌*◌, ◌/◌, min, Bool, false, cond, List, [], ◌∷◌, length, ltb, eqb, ℤ, pos, Float, Option, Some, None, is_some, unwrap_or}
use Rattle.std.specs.Float.{fin}
use Rattle.number.specs.Whole.{unsigned_of, signed_of, with_sign}
use Rattle.number.specs.Word.{none, minus_in, front_in, behind_in}
use Rattle.real.specs.Real.{real, ten_thousandths_of}
use Rattle.real.specs.Wide.{real_with}
use Rattle.real.specs.declared.Real.{Real}
use Rattle.line.specs.Columns.{part_of, rest_of}
use Rattle.line.specs.declared.columns.Columns.{Columns}
use Rattle.line.specs.declared.fault.Sort.{Sort}
use Rattle.line.specs.declared.fault.Sort.TheVariants.{Unsigned as USort, Signed as ISort, Real as RSort}
use Rattle.line.specs.declared.fault.FaultKind.{FaultKind}
use Rattle.line.specs.declared.fault.FaultKind.TheVariants.{Short, Wrong}
use Rattle.line.specs.declared.fault.Fault.{Fault}
use Rattle.line.specs.declared.fault.Faults.{Faults}
use Rattle.line.specs.declared.fault.Got.{Got}
use Rattle.field.specs.Found.{fine, got}

-- 0.0 and 1.0
abbrev pub zero_real : Float
zero_real = fin false 0 (pos 0)

abbrev pub one_real : Float
one_real = fin false 1 (pos 0)

-- a fault of the columns
abbrev pub fault_at : FaultKind → Columns → Fault
fault_at kind at = record { kind = kind; place = at.start; length = at.end - at.start }

abbrev pub short_at : Columns → Fault
short_at at = fault_at Short at

abbrev pub wrong_at : Sort → Columns → Fault
wrong_at sort at = fault_at (Wrong sort) at

-- the faults of a number field: 1 where the line doesn't reach, 2 where the text is no number of the sort
unfoldable pub number_faults : List ℕ → Columns → Sort → Bool → List Fault
number_faults l at sort said =
    cond (ltb (length l) at.end) (short_at at ∷ []) (cond said [] (wrong_at sort at ∷ []))

-- the one that it has, if it has one
abbrev pub number_fault : List ℕ → Columns → Sort → Fault
number_fault l at sort = cond (ltb (length l) at.end) (short_at at) (wrong_at sort at)

-- U
unfoldable pub unsigned_at : List ℕ → Columns → ℕ
unsigned_at l at = unwrap_or (unsigned_of (part_of l at)) 0

abbrev pub unsigned_faults : List ℕ → Columns → List Fault
unsigned_faults l at = number_faults l at USort (is_some (unsigned_of (part_of l at)))

-- I
unfoldable pub signed_at : List ℕ → Columns → ℤ
signed_at l at = unwrap_or (signed_of (part_of l at)) (pos 0)

abbrev pub signed_faults : List ℕ → Columns → List Fault
signed_faults l at = number_faults l at ISort (is_some (signed_of (part_of l at)))

-- R, with an exponent or not as the option has it: with its default, and its places, "and 0 for a default"
unfoldable pub real_at : Bool → List ℕ → Columns → Float → Float
real_at on l at default = (unwrap_or (real_with on (part_of l at)) (real default 0)).value

unfoldable pub places_at : Bool → List ℕ → Columns → ℕ
places_at on l at = (unwrap_or (real_with on (part_of l at)) (real zero_real 0)).places

abbrev pub read_at : Bool → List ℕ → Columns → Float → Real
read_at on l at default = real (real_at on l at default) (places_at on l at)

abbrev pub real_faults : Bool → List ℕ → Columns → List Fault
real_faults on l at = number_faults l at RSort (is_some (real_with on (part_of l at)))

-- one of ANISOU's six: I, made a double and divided by 10000.0
unfoldable pub factor_at : List ℕ → Columns → Float
factor_at l at = unwrap_or (ten_thousandths_of (part_of l at)) zero_real

abbrev pub factor_faults : List ℕ → Columns → List Fault
factor_faults l at = number_faults l at ISort (is_some (ten_thousandths_of (part_of l at)))

-- U from a column to the end of the line. A fault's length has 16 bits, which every line that is read keeps within
abbrev pub rest_columns : List ℕ → ℕ → Columns
rest_columns l start = record { start = start; end = min (length l) 65535 }

unfoldable pub unsigned_from : List ℕ → ℕ → ℕ
unsigned_from l start = unwrap_or (unsigned_of (rest_of l start)) 0

unfoldable pub unsigned_from_faults : List ℕ → ℕ → List Fault
unsigned_from_faults l start =
    cond (is_some (unsigned_of (rest_of l start))) [] (wrong_at USort (rest_columns l start) ∷ [])

-- ---- a field's value, if it has no fault
abbrev pub fine_unsigned : List ℕ → Columns → Option ℕ
fine_unsigned l at = fine (unsigned_faults l at) (unsigned_at l at)

abbrev pub fine_signed : List ℕ → Columns → Option ℤ
fine_signed l at = fine (signed_faults l at) (signed_at l at)

abbrev pub fine_real : Bool → List ℕ → Columns → Option Real
fine_real on l at = fine (real_faults on l at) (read_at on l at zero_real)

-- by what was read of its columns as a word
abbrev pub signed_four : ℕ → Option ℤ
signed_four c = cond (eqb c none) None (Some (with_sign (minus_in c) (front_in c)))

abbrev pub unsigned_five : ℕ → Option ℕ
unsigned_five c = cond (minus_in c) None (Some (front_in c * 10 + behind_in c / 100))

-- ---- a field's value beside the faults with its own noted
abbrev pub got_unsigned : List ℕ → Columns → Faults → Got ℕ
got_unsigned l at fs = got (unsigned_at l at) (unsigned_faults l at) fs

abbrev pub got_signed : List ℕ → Columns → Faults → Got ℤ
got_signed l at fs = got (signed_at l at) (signed_faults l at) fs

abbrev pub got_real : Bool → List ℕ → Columns → Float → Faults → Got Real
got_real on l at default fs = got (read_at on l at default) (real_faults on l at) fs

abbrev pub got_factor : List ℕ → Columns → Faults → Got Float
got_factor l at fs = got (factor_at l at) (factor_faults l at) fs

abbrev pub got_unsigned_from : List ℕ → ℕ → Faults → Got ℕ
got_unsigned_from l start fs = got (unsigned_from l start) (unsigned_from_faults l start) fs
