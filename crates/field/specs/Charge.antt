-- "Charge: 0 with no fault under 80 bytes or for two blanks; else a digit, then `+` or `-`. Faults: 3 charge not a digit (78, 1); 4 charge
-- unsigned (79, 1)."
use Rattle.std.specs.Prelude.{ℕ, ◌-◌, ◌+◌, Bool, cond, not, ◌&&◌, ◌||◌, List, [], ◌∷◌, length, get_or, eqb, ℤ, pos, Option, Some, None}
use Rattle.number.specs.Whole.{digit, with_sign}
use Rattle.line.specs.Columns.{part_of}
use Rattle.line.specs.declared.columns.Columns.{Columns}
use Rattle.line.specs.declared.fault.FaultKind.TheVariants.{NoDigit, NoSign}
use Rattle.line.specs.declared.fault.Fault.{Fault}
use Rattle.line.specs.declared.fault.Faults.{Faults}
use Rattle.line.specs.declared.fault.Got.{Got}
use Rattle.field.specs.Found.{fine, got}

unfoldable pub both_blank : ℕ → ℕ → Bool
both_blank a b = eqb a 32 && eqb b 32

abbrev pub is_sign : ℕ → Bool
is_sign b = eqb b 43 || eqb b 45

-- columns that the line reaches, a digit's and a sign's, and not both blank
unfoldable pub charged : List ℕ → Bool
charged part = eqb (length part) 2 && not (both_blank (get_or part 0 0) (get_or part 1 0))

-- the charge that a digit and a sign say, 0 for anything else
unfoldable pub charge_of : ℕ → ℕ → ℤ
charge_of d s = cond (digit d && is_sign s) (with_sign (eqb s 45) (d - 48)) (pos 0)

unfoldable pub charge_faults_of : ℕ → ℕ → ℕ → List Fault
charge_faults_of d s start =
    cond (digit d)
    (cond (is_sign s) [] (record { kind = NoSign; place = start + 1; length = 1 } ∷ []))
    (record { kind = NoDigit; place = start; length = 1 } ∷ [])

-- the one of a charge that has one
abbrev pub charge_fault : ℕ → ℕ → Fault
charge_fault d start = cond (digit d) (record { kind = NoSign; place = start + 1; length = 1 }) (record { kind = NoDigit; place = start; length = 1 })

unfoldable pub charge_at : List ℕ → Columns → ℤ
charge_at l at = cond (charged (part_of l at)) (charge_of (get_or (part_of l at) 0 0) (get_or (part_of l at) 1 0)) (pos 0)

unfoldable pub charge_faults : List ℕ → Columns → List Fault
charge_faults l at = cond (charged (part_of l at)) (charge_faults_of (get_or (part_of l at) 0 0) (get_or (part_of l at) 1 0) at.start) []

-- ---- the charge, if it has no fault
abbrev pub fine_charge : List ℕ → Columns → Option ℤ
fine_charge l at = fine (charge_faults l at) (charge_at l at)

abbrev pub fine_charge_of : ℕ → ℕ → Option ℤ
fine_charge_of d s = cond (digit d && is_sign s) (Some (charge_of d s)) None

-- ---- the charge beside the faults with its own noted
abbrev pub got_charge : List ℕ → Columns → Faults → Got ℤ
got_charge l at fs = got (charge_at l at) (charge_faults l at) fs
