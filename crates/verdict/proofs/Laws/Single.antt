-- The contract of each public function asks nothing and leaves one answer, with one content of all that is lent to be written.
-- Assumes nothing.
use Rattle.single.specs.One.{One}
use Rattle.single.proofs.Laws.One.{leaves, lent}
use Rattle.page.proofs.Laws.Single.{page-one}
use Rattle.verdict.specs.contracts as its

pub put_verdict_one : One its.put_verdict.ended (λ M 𝓤. its.put_verdict.clauses)
put_verdict_one w κs a g = leaves w (λ r s u v e f. lent 1 0 (page-one e f))
