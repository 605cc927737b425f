-- The contract of each public function asks nothing and leaves one answer, with one content of all that is lent to be written.
-- Assumes nothing.
use mathlib.Core.Path.{refl}
use Rattle.single.specs.One.{One}
use Rattle.single.proofs.Laws.One.{equation, leaves, lent_both}
use Rattle.mend.proofs.Laws.One.{mends_one}
use Rattle.mend.specs.contracts as its

pub padding-one : One its.cut.padding.ended (λ M 𝓤. its.cut.padding.clauses)
padding-one w κs a g = equation w (λ u v. refl)

pub left_cut-one : One its.cut.left_cut.ended (λ M 𝓤. its.cut.left_cut.clauses)
left_cut-one w κs a g = equation w (λ u v. refl)

pub refusal_of-one : One its.refusal_of.ended (λ M 𝓤. its.refusal_of.clauses)
refusal_of-one w κs a g = equation w (λ u v. refl)

pub mend_line_one : One its.mend_line.ended (λ M 𝓤. its.mend_line.clauses)
mend_line_one w κs a g = leaves w (λ r s u v e f. lent_both 1 0 0 (mends_one e f))
