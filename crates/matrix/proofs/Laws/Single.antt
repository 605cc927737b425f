-- The contract of each public function asks nothing and leaves one answer, with one content of all that is lent to be written.
-- Assumes nothing.
use mathlib.Core.Path.{refl}
use Rattle.single.specs.One.{One}
use Rattle.single.proofs.Laws.One.{equation}
use Rattle.matrix.specs.contracts as its

pub rows_none_one : One its.Rows.none.ended (λ M 𝓤. its.Rows.none.clauses)
rows_none_one w κs a g = equation w (λ u v. refl)

pub with_row-one : One its.with_row.ended (λ M 𝓤. its.with_row.clauses)
with_row-one w κs a g = equation w (λ u v. refl)

pub whole-one : One its.whole.ended (λ M 𝓤. its.whole.clauses)
whole-one w κs a g = equation w (λ u v. refl)

pub apply_one : One its.apply.ended (λ M 𝓤. its.apply.clauses)
apply_one w κs a g = equation w (λ u v. refl)
