-- The contract of each public function asks nothing and leaves one answer, with one content of all that is lent to be written.
-- Assumes nothing.
use mathlib.Core.Path.{refl}
use Rattle.single.specs.One.{One}
use Rattle.single.proofs.Laws.One.{equation, leaves, lent}
use Rattle.listing.proofs.Laws.One.{listed-one}
use Rattle.listing.specs.contracts as its

pub list_line_one : One its.list_line.ended (λ M 𝓤. its.list_line.clauses)
list_line_one w κs a g = leaves w (λ r s u v e f. lent 4 0 (listed-one e f))

pub measure_line_one : One its.measure_line.ended (λ M 𝓤. its.measure_line.clauses)
measure_line_one w κs a g = equation w (λ u v. refl)
