-- `cell::text::put_last` meets its contract. The loop's invariant: the digits that are left go before those that were found.
-- Assumes nothing.
use Prim.Native.Nat.{◌-◌, ◌≤◌}
use mathlib.Core.Path.{◌≡◌}
use mathlib.Core.List.{[]}
use lib.ListN.{length, drop}
use Rattle.cell.specs.Text.{last_digits}
use Rattle.cell.proofs.text.put_last.Given as goal

abbrev pub invariant-loop-i : goal.invariant-loop-i
invariant-loop-i l =
    (l.i-start ≤ l.i) × (length l.bytes ≡ 9) × (last_digits (l.i - l.i-start) l.rest (drop l.i l.bytes) ≡ last_digits l.k l.n [])
