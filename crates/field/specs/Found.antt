-- What a field is read as, in two ways: its value if it is fine, or its value beside the faults.
use Rattle.std.specs.Prelude.{Bool, true, false, List, [], ◌∷◌, Option, Some, None}
use Rattle.line.specs.Faults.{all_noted}
use Rattle.line.specs.declared.fault.Fault.{Fault}
use Rattle.line.specs.declared.fault.Faults.{Faults}
use Rattle.line.specs.declared.fault.Got.{Got}

-- a field is fine if it has no fault
abbrev pub is_fine : List Fault → Bool
is_fine [] = true
is_fine (f ∷ t) = false

-- the value of one that is
abbrev pub fine : {A : Type 0} → List Fault → A → Option A
fine [] v = Some v
fine (f ∷ t) v = None

-- a field's value beside the faults with its own noted
abbrev pub got : {A : Type 0} → A → List Fault → Faults → Got A
got v own fs = record { value = v; faults = all_noted fs own }
