-- `stream::list_from` is safe: at each turn what is held is what the parts so far left, and there are numbers for the lines of all reads that
-- are left.
-- Assumes nothing.
use Prim.Native.Nat.{◌+◌, ◌-◌, ◌*◌, ◌^◌, ◌<◌}
use mathlib.Core.Path.{◌≡◌}
use lib.ListN.{length}
use Rattle.stream.specs.Printed.{Came}
use Rattle.stream.proofs.list_from.Given as goal

abbrev pub invariant-loop-turn : goal.invariant-loop-turn
invariant-loop-turn g l =
    (length l.space ≡ 65536) × Came (record { held = l.held; kept = l.kept }) × (l.held.number + 65536 * (140737488355328 - l._turn) < 2 ^ 64)
