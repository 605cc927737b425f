-- "Each `fault=kind,place,length`": the number of the fault's kind, its place and its length.
use Rattle.std.specs.Prelude.{ℕ, List}
use Rattle.line.specs.Bytes.{bytes}
use Rattle.line.specs.Faults.{number_of}
use Rattle.line.specs.declared.fault.Fault.{Fault}
use Rattle.layout.specs.Each.{each}
use Rattle.layout.specs.Label.{three_row}

abbrev pub fault_bytes : Fault → List ℕ
fault_bytes f = three_row (bytes "fault=") (number_of f.kind) f.place f.length

abbrev pub faults_bytes : List Fault → List ℕ
faults_bytes fs = each fault_bytes fs
