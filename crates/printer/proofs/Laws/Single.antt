-- The contract of each public function asks nothing and leaves one answer, with one content of all that is lent to be written.
-- Assumes nothing.
use Rattle.single.specs.One.{One}
use Rattle.single.proofs.Laws.One.{leaves, lent}
use Rattle.sheet.proofs.Laws.One.{writes_one}
use Rattle.printer.specs.contracts as its

pub write_atom_one : One its.atoms.write_atom.ended (λ M 𝓤. its.atoms.write_atom.clauses)
write_atom_one w κs a g = leaves w (λ r s u v e f. lent 15 0 (writes_one e f))

pub write_anisou_one : One its.atoms.write_anisou.ended (λ M 𝓤. its.atoms.write_anisou.clauses)
write_anisou_one w κs a g = leaves w (λ r s u v e f. lent 11 0 (writes_one e f))

pub write_model_one : One its.bare.write_model.ended (λ M 𝓤. its.bare.write_model.clauses)
write_model_one w κs a g = leaves w (λ r s u v e f. lent 1 0 (writes_one e f))

pub write_bare_one : One its.bare.write_bare.ended (λ M 𝓤. its.bare.write_bare.clauses)
write_bare_one w κs a g = leaves w (λ r s u v e f. lent 1 0 (writes_one e f))

pub write_scale_one : One its.rows.write_scale.ended (λ M 𝓤. its.rows.write_scale.clauses)
write_scale_one w κs a g = leaves w (λ r s u v e f. lent 3 0 (writes_one e f))

pub write_origx_one : One its.rows.write_origx.ended (λ M 𝓤. its.rows.write_origx.clauses)
write_origx_one w κs a g = leaves w (λ r s u v e f. lent 3 0 (writes_one e f))

pub write_mtrix_one : One its.rows.write_mtrix.ended (λ M 𝓤. its.rows.write_mtrix.clauses)
write_mtrix_one w κs a g = leaves w (λ r s u v e f. lent 5 0 (writes_one e f))

pub write_cell_one : One its.unit_cell.write_cell.ended (λ M 𝓤. its.unit_cell.write_cell.clauses)
write_cell_one w κs a g = leaves w (λ r s u v e f. lent 4 0 (writes_one e f))
