-- The contract of each public function asks nothing and leaves one answer, with one content of all that is lent to be written.
-- Assumes nothing.
use Rattle.single.specs.One.{One}
use Rattle.single.proofs.Laws.One.{leaves, lent, lent_both}
use Rattle.moving.proofs.Laws.Matrix.{applies-one, collects-one}
use Rattle.moving.specs.contracts as its

pub set_row_one : One its.set_row.ended (λ M 𝓤. its.set_row.clauses)
set_row_one w κs a g = leaves w (λ r s u v e f. lent_both 5 0 0 (collects-one e f))

pub move_position_one : One its.move_position.ended (λ M 𝓤. its.move_position.clauses)
move_position_one w κs a g = leaves w (λ r s u v e f. lent 5 0 (applies-one e f))
