-- The contract of each public function asks nothing and leaves one answer, with one content of all that is lent to be written.
-- Assumes nothing.
use mathlib.Core.Path.{refl}
use Rattle.single.specs.One.{One}
use Rattle.single.proofs.Laws.One.{equation, leaves, lent}
use Rattle.answers.proofs.Laws.One.{told-one, written_one}
use Rattle.answers.proofs.Laws.Places.{counts-one}
use Rattle.answers.specs.contracts as its

pub kind_word-one : One its.kinds.kind_word.ended (λ M 𝓤. its.kinds.kind_word.clauses)
kind_word-one w κs a g = equation w (λ u v. refl)

pub list_into_one : One its.list_into.ended (λ M 𝓤. its.list_into.clauses)
list_into_one w κs a g = leaves w (λ r s u v e f. lent 4 0 (written_one e f))

pub list_refusal_one : One its.list_refusal.ended (λ M 𝓤. its.list_refusal.clauses)
list_refusal_one w κs a g = leaves w (λ r s u v e f. lent 4 0 (told-one _ e f))

pub list_place_one : One its.list_place.ended (λ M 𝓤. its.list_place.clauses)
list_place_one w κs a g = leaves w (λ r s u v e f. lent 4 0 (told-one _ e f))

pub list_length_one : One its.list_length.ended (λ M 𝓤. its.list_length.clauses)
list_length_one w κs a g = leaves w (λ r s u v e f. lent 4 0 (told-one _ e f))

pub places_into_one : One its.places.places_into.ended (λ M 𝓤. its.places.places_into.clauses)
places_into_one w κs a g = leaves w (λ r s u v e f. lent 4 0 (counts-one _ _ e f))
