-- `page::put_unsigned` meets its contract. The loop's invariant: the digits of the rest in front of those gathered are the number's, and
-- the rest has at most as many digits as there is room.
-- Assumes nothing.
use Prim.Native.Nat.{◌^◌, ◌≤◌, ◌<◌}
use mathlib.Core.Path.{◌≡◌}
use lib.ListN.{length, drop}
use Rattle.page.specs.Numerals.{decimal_before, decimal}
use Rattle.page.proofs.put_unsigned.Given as goal

abbrev pub invariant-loop-rest : goal.invariant-loop-rest
invariant-loop-rest l =
    (0 < l.i) × (l.i ≤ 20) × (length l.text ≡ 20) × (l.rest < 10 ^ l.i) × (decimal_before l.i l.rest (drop l.i l.text) ≡ decimal l.n)

abbrev pub decreases-loop-rest : goal.decreases-loop-rest
decreases-loop-rest l = l.rest
