-- `stream::output::print_part` meets its contract: at each turn the part from `at` on is due, by what is held (Laws.Printed), and the offset
-- goes on.
-- Assumes nothing.
use Prim.Native.Nat.{◌-◌}
use mathlib.Core.Path.{◌≡◌}
use lib.ListN.{length}
use Rattle.stream.proofs.Laws.Printed.{Due}
use Rattle.stream.proofs.output.print_part.Given as goal

abbrev pub invariant-loop-at : goal.invariant-loop-at
invariant-loop-at g l =
    (length l.space ≡ 65536) × (l.before ≡ l.initial.kept) × Due (record { held = l.held; kept = l.before }) l.part (record { held = l.h; kept = l.kept }) l.at l.done

abbrev pub decreases-loop-at : goal.decreases-loop-at
decreases-loop-at g l = length l.part - l.at
