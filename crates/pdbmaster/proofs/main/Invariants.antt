-- `pdbmaster::main` is safe: at each turn what is known and held is what the parts so far left, and every place in the input has a number, whatever the
-- reads that are left bring.
-- Assumes nothing.
use Prim.Native.Nat.{◌-◌}
use mathlib.Core.Path.{◌≡◌}
use lib.ListN.{length}
use Rattle.pdbmaster.specs.Came.{Came}
use Rattle.pdbmaster.proofs.main.Given as goal

abbrev pub invariant-loop-turn : goal.invariant-loop-turn
invariant-loop-turn l =
    (length l.space ≡ 65536) × Came (record { watch = l.watch; state = record { held = l.held; kept = l.kept } }) (140737488355328 - l._turn)
