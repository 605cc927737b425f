-- The contract of each public function asks nothing and leaves one answer, with one content of all that is lent to be written.
-- Assumes nothing.
use mathlib.Core.Path.{refl}
use Rattle.single.specs.One.{One}
use Rattle.single.proofs.Laws.One.{equation, leaves, lent}
use Rattle.findings.proofs.Laws.Check.{finds_one}
use Rattle.findings.specs.contracts as its

pub check_into_one : One its.check_into.ended (λ M 𝓤. its.check_into.clauses)
check_into_one w κs a g = leaves w (λ r s u v e f. lent 1 0 (finds_one e f))

pub refused_place_one : One its.refused_place.ended (λ M 𝓤. its.refused_place.clauses)
refused_place_one w κs a g = equation w (λ u v. refl)

pub refused_length_one : One its.refused_length.ended (λ M 𝓤. its.refused_length.clauses)
refused_length_one w κs a g = equation w (λ u v. refl)
