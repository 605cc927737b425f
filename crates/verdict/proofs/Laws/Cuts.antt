-- "For every way of cutting the input": what there is to print once all parts came, and then the end, is what there is to print for the whole.
-- Assumes nothing.
use Prim.Native.Nat.{ℕ, ◌^◌, ◌<◌}
use mathlib.Core.Path.{◌≡◌, ap}
use mathlib.Core.List.{List}
use lib.ListN.{length}
use Rattle.audit.specs.Cuts.{last_watch, behind_parts, start}
use Rattle.audit.specs.Watch.{judged_by}
use Rattle.audit.proofs.Laws.Cuts.{cuts_checked}
use Rattle.carry.specs.Pieces.{joined}
use Rattle.verdict.specs.Verdict.{verdict_of, verdict}

pub cuts_verdict : (ps : List (List ℕ)) → length (joined ps) < 2 ^ 64
    → verdict_of (judged_by (last_watch (behind_parts start ps).watch (behind_parts start ps).state)) ≡ verdict (joined ps)
cuts_verdict ps few = ap verdict_of (cuts_checked ps few)
