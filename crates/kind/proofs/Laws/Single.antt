-- The contract of each public function asks nothing and leaves one answer, with one content of all that is lent to be written.
-- Assumes nothing.
use mathlib.Core.Path.{refl}
use Rattle.single.specs.One.{One, OneBy}
use Rattle.single.proofs.Laws.One.{equation}
use Rattle.kind.specs.contracts as its

pub kind_of-one : One its.kind_of.ended (λ M 𝓤. its.kind_of.clauses)
kind_of-one w κs a g = equation w (λ u v. refl)

pub name_of-one : OneBy its.name.name_of.ended (λ M 𝓤. its.name.name_of.clauses) (λ κs. (λ x. x.now))
name_of-one w κs a g = equation w (λ u v. refl)

pub number_of-one : One its.numbered.number_of.ended (λ M 𝓤. its.numbered.number_of.clauses)
number_of-one w κs a g = equation w (λ u v. refl)
