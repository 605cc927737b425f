-- The contract of each public function asks nothing and leaves one answer, with one content of all that is lent to be written.
-- Assumes nothing.
use mathlib.Core.Path.{refl, sym, ◌∙◌}
use Rattle.single.specs.One.{One}
use Rattle.single.proofs.Laws.One.{equation, leaves, lent}
use Rattle.tally.specs.contracts as its

pub counts_of-one : One its.compare.counts_of.ended (λ M 𝓤. its.compare.counts_of.clauses)
counts_of-one w κs a g = equation w (λ u v. refl)

pub said_by-one : One its.compare.said_by.ended (λ M 𝓤. its.compare.said_by.clauses)
said_by-one w κs a g = equation w (λ u v. refl)

pub differing-one : One its.compare.differing.ended (λ M 𝓤. its.compare.differing.clauses)
differing-one w κs a g = equation w (λ u v. refl)

pub counted-one : One its.counted.ended (λ M 𝓤. its.counted.clauses)
counted-one w κs a g = equation w (λ u v. refl)

pub count_line_one : One its.count_line.ended (λ M 𝓤. its.count_line.clauses)
count_line_one w κs a g = leaves w (λ r s u v e f. lent 0 1 (refl, e ∙ sym f))

pub number_of-one : One its.names.number_of.ended (λ M 𝓤. its.names.number_of.clauses)
number_of-one w κs a g = equation w (λ u v. refl)

pub is_master-one : One its.names.is_master.ended (λ M 𝓤. its.names.is_master.clauses)
is_master-one w κs a g = equation w (λ u v. refl)
