-- `pdbmend::held::absorb` meets its contract.
-- Assumes nothing.
use Prim.Native.Nat.{◌-◌, ◌≤◌}
use lib.ListN.{length}
use Rattle.pdbmend.proofs.Laws.Held.{Taking}
use Rattle.pdbmend.proofs.held.absorb.Given as goal

abbrev pub invariant-loop-i : goal.invariant-loop-i
invariant-loop-i l = (l.k ≤ 1026) × (l.at ≤ l.i) × Taking l.n l.initial.kept l.part l.at l.k l.i l.kept

abbrev pub decreases-loop-i : goal.decreases-loop-i
decreases-loop-i l = length l.part - l.i
