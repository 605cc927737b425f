-- The contract of each public function asks nothing and leaves one answer, with one content of all that is lent to be written.
-- Assumes nothing.
use mathlib.Core.Path.{refl}
use Rattle.single.specs.One.{One}
use Rattle.single.proofs.Laws.One.{equation, leaves, lent}
use Rattle.page.proofs.Laws.Single.{page-one}
use Rattle.names.specs.contracts as its

pub put_name_one : One its.put_name.ended (λ M 𝓤. its.put_name.clauses)
put_name_one w κs a g = leaves w (λ r s u v e f. lent 0 3 (page-one e f))

pub put_default_one : One its.put_default.ended (λ M 𝓤. its.put_default.clauses)
put_default_one w κs a g = leaves w (λ r s u v e f. lent 0 3 (page-one e f))

pub group_of-one : One its.group_of.ended (λ M 𝓤. its.group_of.clauses)
group_of-one w κs a g = equation w (λ u v. refl)

pub put_group_one : One its.put_group.ended (λ M 𝓤. its.put_group.clauses)
put_group_one w κs a g = leaves w (λ r s u v e f. lent 0 2 (page-one e f))
