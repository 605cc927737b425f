-- `mend::changes::note_runs` meets its contract. The loop's invariant: with the runs of the rest, the notes are as those of the whole line.
-- Assumes nothing.
use Prim.Native.Nat.{◌≤◌}
use mathlib.Core.Path.{◌≡◌}
use lib.ListN.{length, drop}
use Rattle.mend.specs.Changes.{notes, note_all, runs}
use Rattle.mend.proofs.changes.note_runs.Given as goal

abbrev pub invariant-loop-i : goal.invariant-loop-i
invariant-loop-i l =
    (length l.changes ≡ length l.initial.changes)
    × (l.run.count ≤ l.i)
    × (l.run.n ≤ l.i)
    × (note_all (notes l.changes l.run.count) (runs l.i l.run.n (drop l.i l.line)) ≡ note_all (notes l.initial.changes 0) (runs 0 0 l.line))
