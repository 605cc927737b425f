-- `pdbreport::step::take_part` meets its contract. The loop's invariant: what is known is what the part up to the offset leaves.
-- Assumes nothing.
use Prim.Native.Nat.{◌-◌, ◌≤◌}
use mathlib.Core.Path.{◌≡◌}
use lib.ListN.{length, take}
use Rattle.pdbreport.specs.Fed.{progress, fed_all}
use Rattle.pdbreport.proofs.step.take_part.Given as goal

abbrev pub invariant-loop-at : goal.invariant-loop-at
invariant-loop-at g l =
    (l.at ≤ length l.part) × (progress l.ledger l.h l.kept ≡ fed_all (progress l.initial.ledger l.initial.h l.initial.kept) (take l.at l.part))

abbrev pub decreases-loop-at : goal.decreases-loop-at
decreases-loop-at g l = length l.part - l.at
