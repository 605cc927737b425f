-- "Put the line number and the record kind into every fault." The list of an answer tells of faults that have both; a refusal's is empty.
use Rattle.std.specs.Prelude.{ℕ, cond, List, [], ◌∷◌, get_or, ltb}
use Rattle.line.specs.Faults.{no_faults, blank_fault, listed}
use Rattle.line.specs.declared.fault.Fault.{Fault}
use Rattle.line.specs.declared.fault.Faults.{Faults}
use Rattle.kind.specs.declared.Kind.{Kind}
use Rattle.kind.specs.declared.Kind.TheVariants.{Empty}
use Rattle.lexitem.specs.declared.fault.LineFault.{LineFault}
use Rattle.lexitem.specs.declared.fault.LineFaults.{LineFaults}

-- the faults of a line that has a number and a kind
abbrev pub stamped : ℕ → Kind → List Fault → List LineFault
stamped line kind [] = []
stamped line kind (f ∷ t) = record { line = line; kind = kind; fault = f } ∷ stamped line kind t

-- the faults that a list tells of
unfoldable pub told : LineFaults → List LineFault
told fs = stamped fs.line fs.kind (listed (record { list = fs.list; count = fs.count }))

-- a list that tells of a reader's faults as those of a line
unfoldable pub stamped_as : ℕ → Kind → Faults → LineFaults
stamped_as line kind fs = record { line = line; kind = kind; list = fs.list; count = fs.count }

abbrev pub no_line_faults : LineFaults
no_line_faults = stamped_as 0 Empty no_faults

-- the n-th of them, or a blank one
abbrev pub told_at_of : LineFaults → ℕ → LineFault
told_at_of fs n =
    cond (ltb n fs.count) (record { line = fs.line; kind = fs.kind; fault = get_or fs.list n blank_fault })
    (record { line = 0; kind = Empty; fault = blank_fault })

-- what they say of their columns
abbrev pub faults_in : List LineFault → List Fault
faults_in [] = []
faults_in (f ∷ t) = f.fault ∷ faults_in t
