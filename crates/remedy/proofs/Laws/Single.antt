-- The contract of each public function asks nothing and leaves one answer, with one content of all that is lent to be written.
-- Assumes nothing.
use Rattle.single.specs.One.{One}
use Rattle.single.proofs.Laws.One.{leaves, lent_both}
use Rattle.remedy.proofs.Laws.Mend.{mends_into_one}
use Rattle.remedy.specs.contracts as its

pub mend_into_one : One its.mend_into.ended (λ M 𝓤. its.mend_into.clauses)
mend_into_one w κs a g = leaves w (λ r s u v e f. lent_both 1 0 0 (mends_into_one e f))
