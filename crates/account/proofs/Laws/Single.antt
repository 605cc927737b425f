-- The contract of each public function asks nothing and leaves one answer, with one content of all that is lent to be written.
-- Assumes nothing.
use Rattle.single.specs.One.{One}
use Rattle.single.proofs.Laws.One.{leaves, lent}
use Rattle.page.proofs.Laws.Single.{page-one}
use Rattle.account.specs.contracts as its

pub put_account_one : One its.put_account.ended (λ M 𝓤. its.put_account.clauses)
put_account_one w κs a g = leaves w (λ r s u v e f. lent 0 3 (page-one e f))
