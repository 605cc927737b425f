-- `audit::see::see_lines` meets its contract. The loop's invariant: with the lines that are left, what is known comes to what it does with all of
-- them.
-- Assumes nothing.
use Prim.Native.Nat.{◌-◌}
use mathlib.Core.Path.{◌≡◌}
use lib.ListN.{length, drop}
use Rattle.carry.specs.Pieces.{stretches_of}
use Rattle.audit.specs.Watch.{watched}
use Rattle.audit.proofs.see.see_lines.Given as goal

abbrev pub invariant-loop-here : goal.invariant-loop-here
invariant-loop-here l = watched l.w (stretches_of (drop l.at l.file)) ≡ watched l.initial.w (stretches_of l.file)

abbrev pub decreases-loop-here : goal.decreases-loop-here
decreases-loop-here l = length l.file - l.at
