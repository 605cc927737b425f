-- `verdict::fewer` meets its contract. The loop's invariant: the places that are left tell what all of them do.
-- Assumes nothing.
use mathlib.Core.Path.{◌≡◌}
use lib.ListN.{drop}
use Rattle.verdict.specs.Verdict.{fewer}
use Rattle.verdict.proofs.fewer.Given as goal

abbrev pub invariant-loop-i : goal.invariant-loop-i
invariant-loop-i l = fewer (drop l.i l.counted) (drop l.i l.said) ≡ fewer l.counted l.said
