-- `carry::behind_last` meets its contract: the bytes behind `i` hold no LF, and so the first one found from the end is the last.
-- Assumes nothing.
use Prim.Native.Nat.{◌≤◌}
use mathlib.Core.Path.{◌≡◌}
use lib.ListN.{length, drop}
use Rattle.carry.specs.Whole.{whole_length}
use Rattle.carry.proofs.behind_last.Given as goal

abbrev pub invariant-loop-i : goal.invariant-loop-i
invariant-loop-i l = (whole_length (drop l.i l.part) ≡ 0) × (l.i ≤ length l.part)
