-- The contract of each public function asks nothing and leaves one answer, with one content of all that is lent to be written.
-- Assumes nothing.
use Rattle.single.specs.One.{One}
use Rattle.single.proofs.Laws.One.{leaves, lent, lent_both}
use Rattle.parts.proofs.Laws.One.{feeds-one, puts_one}
use Rattle.parts.specs.contracts as its

pub feed-one : One its.feed.ended (λ M 𝓤. its.feed.clauses)
feed-one w κs a g = leaves w (λ r s u v e f. let h = feeds-one e f in lent_both 1 2 0 (h.0, h.2, h.1))

pub finish_one : One its.finish.ended (λ M 𝓤. its.finish.clauses)
finish_one w κs a g = leaves w (λ r s u v e f. lent 2 0 (puts_one e f))
