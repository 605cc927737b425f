-- The contract of each public function asks nothing and leaves one answer, with one content of all that is lent to be written.
-- Assumes nothing.
use mathlib.Core.Path.{refl}
use Rattle.single.specs.One.{One}
use Rattle.single.proofs.Laws.One.{equation, leaves, lent}
use Rattle.cell.proofs.Laws.One.{puts_one}
use Rattle.page.proofs.Laws.Single.{page-one}
use Rattle.cell.specs.contracts as its

pub put_unsigned_one : One its.put_unsigned.ended (λ M 𝓤. its.put_unsigned.clauses)
put_unsigned_one w κs a g = leaves w (λ r s u v e f. lent 0 3 (puts_one e f))

pub put_signed_one : One its.put_signed.ended (λ M 𝓤. its.put_signed.clauses)
put_signed_one w κs a g = leaves w (λ r s u v e f. lent 0 3 (puts_one e f))

pub put_real_one : One its.put_real.ended (λ M 𝓤. its.put_real.clauses)
put_real_one w κs a g = leaves w (λ r s u v e f. lent 0 4 (puts_one e f))

pub put_factor_one : One its.put_factor.ended (λ M 𝓤. its.put_factor.clauses)
put_factor_one w κs a g = leaves w (λ r s u v e f. lent 0 3 (puts_one e f))

pub round_to_one : One its.places.round_to.ended (λ M 𝓤. its.places.round_to.clauses)
round_to_one w κs a g = equation w (λ u v. refl)

pub put_blanks_one : One its.text.put_blanks.ended (λ M 𝓤. its.text.put_blanks.clauses)
put_blanks_one w κs a g = leaves w (λ r s u v e f. lent 0 2 (page-one e f))

pub put_words_one : One its.words.put_words.ended (λ M 𝓤. its.words.put_words.clauses)
put_words_one w κs a g = leaves w (λ r s u v e f. lent 0 4 (puts_one e f))

pub put_lent_one : One its.words.put_lent.ended (λ M 𝓤. its.words.put_lent.clauses)
put_lent_one w κs a g = leaves w (λ r s u v e f. lent 0 3 (puts_one e f))

pub put_charge_one : One its.words.put_charge.ended (λ M 𝓤. its.words.put_charge.clauses)
put_charge_one w κs a g = leaves w (λ r s u v e f. lent 0 3 (puts_one e f))

pub put_flag_one : One its.words.put_flag.ended (λ M 𝓤. its.words.put_flag.clauses)
put_flag_one w κs a g = leaves w (λ r s u v e f. lent 0 3 (puts_one e f))

pub put_row_one : One its.words.put_row.ended (λ M 𝓤. its.words.put_row.clauses)
put_row_one w κs a g = leaves w (λ r s u v e f. lent 0 3 (puts_one e f))
