-- "faults[0] is the number of faults, and then two words a fault: its line number; and kind number + fault * 2^8 + sort * 2^16 + place * 2^32
-- + length * 2^48 (sort for fault 2: 1 unsigned, 2 signed, 3 real; else 0)."
use Rattle.std.specs.Prelude.{ℕ, ◌+◌, ◌*◌, ◌^◌, List, [], ◌∷◌, length}
use Rattle.line.specs.Faults as faults
use Rattle.line.specs.declared.fault.FaultKind.{FaultKind}
use Rattle.line.specs.declared.fault.FaultKind.TheVariants.{Short, Wrong, NoDigit, NoSign, Unknown}
use Rattle.line.specs.declared.fault.Sort.{Sort}
use Rattle.line.specs.declared.fault.Sort.TheVariants.{Unsigned, Signed, Real}
use Rattle.kind.specs.Kind.{number_of}
use Rattle.layout.specs.Each.{each}
use Rattle.lexitem.specs.declared.fault.LineFault.{LineFault}

abbrev pub sort_number : Sort → ℕ
sort_number Unsigned = 1
sort_number Signed = 2
sort_number Real = 3

abbrev pub sort_of : FaultKind → ℕ
sort_of Short = 0
sort_of (Wrong sort) = sort_number sort
sort_of NoDigit = 0
sort_of NoSign = 0
sort_of Unknown = 0

abbrev pub fault_word : LineFault → ℕ
fault_word f =
    number_of f.kind
    + faults.number_of f.fault.kind * 2 ^ 8
    + sort_of f.fault.kind * 2 ^ 16
    + f.fault.place * 2 ^ 32
    + f.fault.length * 2 ^ 48

unfoldable pub fault_words : LineFault → List ℕ
fault_words f = f.line ∷ fault_word f ∷ []

unfoldable pub faults_words : List LineFault → List ℕ
faults_words fs = length fs ∷ each fault_words fs
