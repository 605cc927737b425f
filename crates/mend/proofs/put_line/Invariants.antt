-- `mend::put_line` meets its contract. The loop's invariant: with the rest of the line, the bytes are as the whole line leaves them.
-- Assumes nothing.
use mathlib.Core.Path.{◌≡◌}
use lib.ListN.{length, drop}
use lib.Seq.{sets}
use Rattle.mend.specs.Mend.{questioned}
use Rattle.mend.proofs.put_line.Given as goal

abbrev pub invariant-loop-i : goal.invariant-loop-i
invariant-loop-i l =
    (length l.out ≡ length l.initial.out) × (sets l.out l.i (questioned (drop l.i l.line)) ≡ sets l.initial.out 0 (questioned l.line))
