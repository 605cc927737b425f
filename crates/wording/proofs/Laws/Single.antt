-- The contract of each public function asks nothing and leaves one answer, with one content of all that is lent to be written.
-- Assumes nothing.
use mathlib.Core.Path.{refl}
use Rattle.single.specs.One.{One}
use Rattle.single.proofs.Laws.One.{leaves, lent}
use Rattle.wording.proofs.Laws.Words.{fills_one}
use Rattle.wording.specs.contracts as its

pub put_atom_fields_one : One its.put_atom_fields.ended (λ M 𝓤. its.put_atom_fields.clauses)
put_atom_fields_one w κs a g = leaves w (λ r s u v e f. lent 0 2 (refl, fills_one e f))

pub put_fields_one : One its.put_fields.ended (λ M 𝓤. its.put_fields.clauses)
put_fields_one w κs a g = leaves w (λ r s u v e f. lent 0 2 (refl, fills_one e f))
