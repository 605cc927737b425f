-- "1 line ends before the field's last column; 2 text of the wrong sort; 3 charge not a digit; 4 charge unsigned; 5 remark number not in the
-- table. Place and length are the field's columns", in a list beside the record; "shrink the list to
-- fifteen".
use Rattle.std.specs.Prelude.{ℕ, ◌+◌, cond, List, [], ◌∷◌, take, set, replicate, ltb}
use Rattle.line.specs.declared.fault.FaultKind.{FaultKind}
use Rattle.line.specs.declared.fault.FaultKind.TheVariants.{Short, Wrong, NoDigit, NoSign, Unknown}
use Rattle.line.specs.declared.fault.Fault.{Fault}
use Rattle.line.specs.declared.fault.Faults.{Faults}

-- 01's number of a fault
abbrev pub number_of : FaultKind → ℕ
number_of Short = 1
number_of (Wrong sort) = 2
number_of NoDigit = 3
number_of NoSign = 4
number_of Unknown = 5

-- what fills the places that hold no fault
abbrev pub blank_fault : Fault
blank_fault = record { kind = Short; place = 0; length = 0 }

unfoldable pub no_faults : Faults
no_faults = record { list = replicate 15 blank_fault; count = 0 }

-- one fault more; a full list stays as it is
unfoldable pub noted : Faults → Fault → Faults
noted fs f = cond (ltb fs.count 15) (record { list = set fs.list fs.count f; count = fs.count + 1 }) fs

-- the faults of a list noted one after the other
abbrev pub all_noted : Faults → List Fault → Faults
all_noted fs [] = fs
all_noted fs (f ∷ t) = all_noted (noted fs f) t

-- the list that is held
unfoldable pub listed : Faults → List Fault
listed fs = take fs.count fs.list
