-- The contract of each public function asks nothing and leaves one answer, with one content of all that is lent to be written.
-- Assumes nothing.
use mathlib.Core.Path.{refl}
use Rattle.single.specs.One.{One}
use Rattle.single.proofs.Laws.One.{equation}
use Rattle.row.specs.contracts as its

pub of_one : One its.Rows.of.ended (λ M 𝓤. its.Rows.of.clauses)
of_one w κs a g = equation w (λ u v. refl)
