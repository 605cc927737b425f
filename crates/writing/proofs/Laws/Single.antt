-- The contract of each public function asks nothing and leaves one answer, with one content of all that is lent to be written.
-- Assumes nothing.
use Rattle.single.specs.One.{One}
use Rattle.single.proofs.Laws.One.{leaves, lent}
use Rattle.writing.proofs.Laws.Write.{packs-one}
use Rattle.writing.specs.contracts as its

pub pack_atom_one : One its.pack_atom.ended (λ M 𝓤. its.pack_atom.clauses)
pack_atom_one w κs a g = leaves w (λ r s u v e f. lent 17 0 (packs-one e f))

pub pack_anisou_one : One its.pack_anisou.ended (λ M 𝓤. its.pack_anisou.clauses)
pack_anisou_one w κs a g = leaves w (λ r s u v e f. lent 16 0 (packs-one e f))

pub pack_cell_one : One its.pack_cell.ended (λ M 𝓤. its.pack_cell.clauses)
pack_cell_one w κs a g = leaves w (λ r s u v e f. lent 9 0 (packs-one e f))

pub pack_row_one : One its.pack_row.ended (λ M 𝓤. its.pack_row.clauses)
pack_row_one w κs a g = leaves w (λ r s u v e f. lent 9 0 (packs-one e f))

pub pack_model_one : One its.pack_model.ended (λ M 𝓤. its.pack_model.clauses)
pack_model_one w κs a g = leaves w (λ r s u v e f. lent 1 0 (packs-one e f))

pub pack_bare_one : One its.pack_bare.ended (λ M 𝓤. its.pack_bare.clauses)
pack_bare_one w κs a g = leaves w (λ r s u v e f. lent 1 0 (packs-one e f))
