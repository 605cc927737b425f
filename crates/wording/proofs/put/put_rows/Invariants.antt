-- `wording::putput_rows` meets its contract. The loop's invariant: the words of the rows before i are put, two a row at most.
-- Assumes nothing.
use Prim.Native.Nat.{◌+◌, ◌*◌, ◌≤◌}
use mathlib.Core.Path.{◌≡◌}
use lib.ListN.{length, take}
use Rattle.wording.specs.Fields.{rows_words}
use Rattle.wording.specs.Put.{Puts}
use Rattle.wording.proofs.put.put_rows.Given as goal

abbrev pub invariant-loop-row : goal.invariant-loop-row
invariant-loop-row l =
    (length l.out ≡ length l.initial.out) × (l.next ≤ l.at + 2 * l.row-index) × Puts l.initial.out l.at (rows_words l.line (take l.row-index l.row-items)) l.next l.out
