-- The contract of each public function asks nothing and leaves one answer, with one content of all that is lent to be written.
-- Assumes nothing.
use mathlib.Core.Path.{refl}
use Rattle.single.specs.One.{One}
use Rattle.single.proofs.Laws.One.{equation, leaves, lent}
use Rattle.page.proofs.Laws.Single.{page-one}
use Rattle.layout.specs.contracts as its

pub put_fault_one : One its.fault.put_fault.ended (λ M 𝓤. its.fault.put_fault.clauses)
put_fault_one w κs a g = leaves w (λ r s u v e f. lent 0 2 (page-one e f))

pub put_number_one : One its.put_number.ended (λ M 𝓤. its.put_number.clauses)
put_number_one w κs a g = leaves w (λ r s u v e f. lent 0 3 (page-one e f))

pub put_three_one : One its.put_three.ended (λ M 𝓤. its.put_three.clauses)
put_three_one w κs a g = leaves w (λ r s u v e f. lent 0 5 (page-one e f))

pub put_head_one : One its.put_head.ended (λ M 𝓤. its.put_head.clauses)
put_head_one w κs a g = leaves w (λ r s u v e f. lent 0 3 (page-one e f))

pub put_places_one : One its.places.put_places.ended (λ M 𝓤. its.places.put_places.clauses)
put_places_one w κs a g = leaves w (λ r s u v e f. lent 0 2 (page-one e f))

pub count_places_one : One its.places.count_places.ended (λ M 𝓤. its.places.count_places.clauses)
count_places_one w κs a g = equation w (λ u v. refl)

pub put_rows_one : One its.rows.put_rows.ended (λ M 𝓤. its.rows.put_rows.clauses)
put_rows_one w κs a g = leaves w (λ r s u v e f. lent 0 3 (page-one e f))
