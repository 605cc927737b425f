-- `real::ten_to` meets its contract. The loop's invariant: after so many turns n is 10 to that power.
-- Assumes nothing.
use Prim.Native.Nat.{◌^◌}
use mathlib.Core.Path.{◌≡◌}
use Rattle.real.proofs.ten_to.Given as goal

abbrev pub invariant-loop : goal.invariant-loop
invariant-loop l = l.n ≡ 10 ^ l.counter
