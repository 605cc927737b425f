-- The contract of each public function asks nothing and leaves one answer, with one content of all that is lent to be written.
-- Assumes nothing.
use mathlib.Core.Path.{refl, sym, ◌∙◌}
use Rattle.single.specs.One.{One}
use Rattle.single.proofs.Laws.One.{leaves, lent}
use Rattle.page.proofs.Laws.Single.{page-one}
use Rattle.ledger.specs.contracts as its

pub enter_one : One its.enter.ended (λ M 𝓤. its.enter.clauses)
enter_one w κs a g = leaves w (λ r s u v e f. lent 0 2 (refl, e ∙ sym f))

pub put_summary_one : One its.summary.put_summary.ended (λ M 𝓤. its.summary.put_summary.clauses)
put_summary_one w κs a g = leaves w (λ r s u v e f. lent 0 2 (page-one e f))
