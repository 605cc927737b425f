-- `walker::lines::has_lf` meets its contract. The loop's invariant: what was found with what is still to be looked at gives what all gives.
-- Assumes nothing.
use mathlib.Core.Path.{◌≡◌}
use mathlib.Core.Bool.{false}
use lib.ListN.{drop}
use Rattle.walker.specs.Lines.{has_lf}
use Rattle.walker.proofs.lines.has_lf.Given as goal

abbrev pub invariant-loop-b : goal.invariant-loop-b
invariant-loop-b l = has_lf l.found (drop l.b-index l.bytes) ≡ has_lf false l.bytes
