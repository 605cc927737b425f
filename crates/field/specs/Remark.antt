-- "5 remark number not in the table (7, 3)": the lent table has a byte for each number, nonzero when it is valid.
use Rattle.std.specs.Prelude.{ℕ, Bool, cond, not, List, [], ◌∷◌, get_or, eqb}
use Rattle.line.specs.Faults.{all_noted}
use Rattle.line.specs.declared.columns.Columns.{Columns}
use Rattle.line.specs.declared.fault.FaultKind.TheVariants.{Unknown}
use Rattle.line.specs.declared.fault.Fault.{Fault}
use Rattle.line.specs.declared.fault.Faults.{Faults}
use Rattle.field.specs.Number.{fault_at}

-- a number is valid if its byte in the remark table isn't 0
unfoldable pub is_known : List ℕ → ℕ → Bool
is_known remarks n = not (eqb (get_or remarks n 0) 0)

unfoldable pub known_faults : List ℕ → ℕ → Columns → List Fault
known_faults remarks n at = cond (is_known remarks n) [] (fault_at Unknown at ∷ [])

-- the faults with the look-up's noted
abbrev pub known_noted : List ℕ → ℕ → Columns → Faults → Faults
known_noted remarks n at fs = all_noted fs (known_faults remarks n at)
