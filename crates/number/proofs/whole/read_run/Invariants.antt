-- `number::whole::read_run` meets its contract. The loop's invariant: from here, with the number so far, the run is the whole text's.
-- Assumes nothing.
use mathlib.Core.Path.{◌≡◌}
use lib.ListN.{drop}
use Rattle.number.specs.Whole.{run_of}
use Rattle.number.proofs.whole.read_run.Given as goal

abbrev pub invariant-loop-i : goal.invariant-loop-i
invariant-loop-i l = run_of l.value l.i (drop l.i l.text) ≡ run_of l.before 0 l.text
