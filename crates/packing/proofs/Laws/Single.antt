-- The contract of each public function asks nothing and leaves one answer, with one content of all that is lent to be written.
-- Assumes nothing.
use mathlib.Core.Path.{refl}
use Rattle.single.specs.One.{One}
use Rattle.single.proofs.Laws.One.{equation}
use Rattle.packing.specs.contracts as its

pub options_of-one : One its.options_of.ended (λ M 𝓤. its.options_of.clauses)
options_of-one w κs a g = equation w (λ u v. refl)

pub packed-one : One its.packed.ended (λ M 𝓤. its.packed.clauses)
packed-one w κs a g = equation w (λ u v. refl)
