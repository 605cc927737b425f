-- `carry::keep::absorb` meets its contract: at each turn, what the bytes that are left would leave is what all of them leave (Laws.Keep).
-- Assumes nothing.
use Prim.Native.Nat.{◌+◌}
use mathlib.Core.Path.{◌≡◌}
use lib.ListN.{drop}
use Rattle.carry.specs.Held.{absorbed}
use Rattle.walker.specs.Lines.{before_lf}
use Rattle.carry.proofs.keep.absorb.Given as goal

abbrev pub invariant-loop-i : goal.invariant-loop-i
invariant-loop-i l =
    (absorbed (record { held = record { total = l.total; cr = l.cr; number = l.held.number }; kept = l.kept }) (drop l.i l.part)
    ≡ absorbed (record { held = l.held; kept = l.initial.kept }) (drop l.at l.part))
    × (l.i + before_lf (drop l.i l.part) ≡ l.at + before_lf (drop l.at l.part))
