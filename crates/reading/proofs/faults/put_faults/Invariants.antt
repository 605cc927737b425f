-- `reading::putput_faults` meets its contract. The loop's invariant: the words of the faults before i are put behind the place of their number.
-- Assumes nothing.
use Prim.Native.Nat.{◌+◌, ◌*◌}
use mathlib.Core.Path.{◌≡◌}
use lib.ListN.{length, take}
use Rattle.layout.specs.Each.{each}
use Rattle.lexitem.specs.Fault.{told}
use Rattle.reading.specs.Faults.{fault_words}
use Rattle.wording.specs.Put.{Puts}
use Rattle.reading.proofs.faults.put_faults.Given as goal

abbrev pub invariant-loop-i : goal.invariant-loop-i
invariant-loop-i l =
    (length l.out ≡ length l.initial.out) × (l.next ≡ 1 + 2 * l.i) × Puts l.initial.out 1 (each fault_words (take l.i (told l.faults))) l.next l.out
