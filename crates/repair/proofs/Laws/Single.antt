-- The contract of each public function asks nothing and leaves one answer, with one content of all that is lent to be written.
-- Assumes nothing.
use Rattle.single.specs.One.{One}
use Rattle.single.proofs.Laws.One.{leaves, lent_both}
use Rattle.repair.proofs.Laws.One.{repairs_one}
use Rattle.repair.specs.contracts as its

pub repair_line_one : One its.repair_line.ended (λ M 𝓤. its.repair_line.clauses)
repair_line_one w κs a g = leaves w (λ r s u v e f. let h = repairs_one e f in lent_both 2 0 0 (λ i. record { n = h.0 i; rows = h.1 i }, h.2, h.3))
