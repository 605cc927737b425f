-- The contract of each public function asks nothing and leaves one answer, with one content of all that is lent to be written.
-- Assumes nothing.
use mathlib.Core.Path.{refl}
use Rattle.single.specs.One.{One}
use Rattle.single.proofs.Laws.One.{equation, leaves, lent, lent_both}
use Rattle.answers.proofs.Laws.One.{told-one, written_one}
use Rattle.answers.proofs.Laws.Places.{counts-one}
use Rattle.findings.proofs.Laws.Check.{finds_one}
use Rattle.moving.proofs.Laws.Matrix.{applies-one, collects-one}
use Rattle.reading.proofs.Laws.Read.{reads-one}
use Rattle.remedy.proofs.Laws.Mend.{mends_into_one}
use Rattle.writing.proofs.Laws.Write.{packs-one}
use Rattle.saltighedda_c.specs.contracts as its

pub saltighedda_kind_one : One its.ask.saltighedda_kind.ended (λ M 𝓤. its.ask.saltighedda_kind.clauses)
saltighedda_kind_one w κs a g = equation w (λ u v. refl)

pub saltighedda_check_master_one : One its.check.saltighedda_check_master.ended (λ M 𝓤. its.check.saltighedda_check_master.clauses)
saltighedda_check_master_one w κs a g = leaves w (λ r s u v e f. lent 1 0 (finds_one e f))

pub saltighedda_check_master_place_one : One its.check.saltighedda_check_master_place.ended (λ M 𝓤. its.check.saltighedda_check_master_place.clauses)
saltighedda_check_master_place_one w κs a g = equation w (λ u v. refl)

pub saltighedda_check_master_length_one : One its.check.saltighedda_check_master_length.ended (λ M 𝓤. its.check.saltighedda_check_master_length.clauses)
saltighedda_check_master_length_one w κs a g = equation w (λ u v. refl)

pub saltighedda_list_one : One its.saltighedda_list.ended (λ M 𝓤. its.saltighedda_list.clauses)
saltighedda_list_one w κs a g = leaves w (λ r s u v e f. lent 4 0 (written_one e f))

pub saltighedda_list_refusal_one : One its.saltighedda_list_refusal.ended (λ M 𝓤. its.saltighedda_list_refusal.clauses)
saltighedda_list_refusal_one w κs a g = leaves w (λ r s u v e f. lent 4 0 (told-one _ e f))

pub saltighedda_list_place_one : One its.saltighedda_list_place.ended (λ M 𝓤. its.saltighedda_list_place.clauses)
saltighedda_list_place_one w κs a g = leaves w (λ r s u v e f. lent 4 0 (told-one _ e f))

pub saltighedda_list_length_one : One its.saltighedda_list_length.ended (λ M 𝓤. its.saltighedda_list_length.clauses)
saltighedda_list_length_one w κs a g = leaves w (λ r s u v e f. lent 4 0 (told-one _ e f))

pub saltighedda_mend_one : One its.mending.saltighedda_mend.ended (λ M 𝓤. its.mending.saltighedda_mend.clauses)
saltighedda_mend_one w κs a g = leaves w (λ r s u v e f. lent_both 1 0 0 (mends_into_one e f))

pub saltighedda_places_one : One its.places.saltighedda_places.ended (λ M 𝓤. its.places.saltighedda_places.clauses)
saltighedda_places_one w κs a g = leaves w (λ r s u v e f. lent 4 0 (counts-one _ _ e f))

pub saltighedda_read_one : One its.read.saltighedda_read.ended (λ M 𝓤. its.read.saltighedda_read.clauses)
saltighedda_read_one w κs a g = leaves w (λ r s u v e f. lent_both 5 0 0 (reads-one e f))

pub saltighedda_matrix_row_one : One its.transform.saltighedda_matrix_row.ended (λ M 𝓤. its.transform.saltighedda_matrix_row.clauses)
saltighedda_matrix_row_one w κs a g = leaves w (λ r s u v e f. lent_both 5 0 0 (collects-one e f))

pub saltighedda_apply_one : One its.transform.saltighedda_apply.ended (λ M 𝓤. its.transform.saltighedda_apply.clauses)
saltighedda_apply_one w κs a g = leaves w (λ r s u v e f. lent 5 0 (applies-one e f))

pub saltighedda_write_atom_one : One its.write.saltighedda_write_atom.ended (λ M 𝓤. its.write.saltighedda_write_atom.clauses)
saltighedda_write_atom_one w κs a g = leaves w (λ r s u v e f. lent 17 0 (packs-one e f))

pub saltighedda_write_anisou_one : One its.write.saltighedda_write_anisou.ended (λ M 𝓤. its.write.saltighedda_write_anisou.clauses)
saltighedda_write_anisou_one w κs a g = leaves w (λ r s u v e f. lent 16 0 (packs-one e f))

pub saltighedda_write_cell_one : One its.write.saltighedda_write_cell.ended (λ M 𝓤. its.write.saltighedda_write_cell.clauses)
saltighedda_write_cell_one w κs a g = leaves w (λ r s u v e f. lent 9 0 (packs-one e f))

pub saltighedda_write_row_one : One its.write.saltighedda_write_row.ended (λ M 𝓤. its.write.saltighedda_write_row.clauses)
saltighedda_write_row_one w κs a g = leaves w (λ r s u v e f. lent 9 0 (packs-one e f))

pub saltighedda_write_model_one : One its.write.saltighedda_write_model.ended (λ M 𝓤. its.write.saltighedda_write_model.clauses)
saltighedda_write_model_one w κs a g = leaves w (λ r s u v e f. lent 1 0 (packs-one e f))

pub saltighedda_write_bare_one : One its.write.saltighedda_write_bare.ended (λ M 𝓤. its.write.saltighedda_write_bare.clauses)
saltighedda_write_bare_one w κs a g = leaves w (λ r s u v e f. lent 1 0 (packs-one e f))
