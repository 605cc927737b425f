-- `pdbmend::main` is safe: at each turn there is room for one byte more of the line that is held.
-- Assumes nothing.
use Prim.Native.Nat.{◌<◌}
use mathlib.Core.Path.{◌≡◌}
use lib.ListN.{length}
use Rattle.pdbmend.proofs.main.Given as goal

abbrev pub invariant-loop : goal.invariant-loop
invariant-loop l = (length l.space ≡ 65536) × (l.held.n < 1026)
