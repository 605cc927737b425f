-- The contract of each public function asks nothing and leaves one answer, with one content of all that is lent to be written.
-- Assumes nothing.
use mathlib.Core.Path.{refl}
use Rattle.single.specs.One.{One, OneBy}
use Rattle.single.proofs.Laws.One.{equation}
use Rattle.number.specs.contracts as its

pub read_decimal_one : One its.decimal.read_decimal.ended (λ M 𝓤. its.decimal.read_decimal.clauses)
read_decimal_one w κs a g = equation w (λ u v. refl)

pub leading_white_one : One its.trim.leading_white.ended (λ M 𝓤. its.trim.leading_white.clauses)
leading_white_one w κs a g = equation w (λ u v. refl)

pub kept_length_one : One its.trim.kept_length.ended (λ M 𝓤. its.trim.kept_length.clauses)
kept_length_one w κs a g = equation w (λ u v. refl)

pub trim_end_one : OneBy its.trim.trim_end.ended (λ M 𝓤. its.trim.trim_end.clauses) (λ κs. (λ x. x.now))
trim_end_one w κs a g = equation w (λ u v. refl)

pub trim_one : OneBy its.trim.trim.ended (λ M 𝓤. its.trim.trim.clauses) (λ κs. (λ x. x.now))
trim_one w κs a g = equation w (λ u v. refl)

pub read_text_one : One its.trim.read_text.ended (λ M 𝓤. its.trim.read_text.clauses)
read_text_one w κs a g = equation w (λ u v. refl)

pub read_run_one : One its.whole.read_run.ended (λ M 𝓤. its.whole.read_run.clauses)
read_run_one w κs a g = equation w (λ u v. refl)

pub begins-one : One its.whole.begins.ended (λ M 𝓤. its.whole.begins.clauses)
begins-one w κs a g = equation w (λ u v. refl)

pub after_sign-one : OneBy its.whole.after_sign.ended (λ M 𝓤. its.whole.after_sign.clauses) (λ κs. (λ x. x.now))
after_sign-one w κs a g = equation w (λ u v. refl)

pub read_unsigned_one : One its.whole.read_unsigned.ended (λ M 𝓤. its.whole.read_unsigned.clauses)
read_unsigned_one w κs a g = equation w (λ u v. refl)

pub read_signed_one : One its.whole.read_signed.ended (λ M 𝓤. its.whole.read_signed.clauses)
read_signed_one w κs a g = equation w (λ u v. refl)

pub read_marked_one : One its.wide.read_marked.ended (λ M 𝓤. its.wide.read_marked.clauses)
read_marked_one w κs a g = equation w (λ u v. refl)

pub read_word-one : One its.word.read_word.ended (λ M 𝓤. its.word.read_word.clauses)
read_word-one w κs a g = equation w (λ u v. refl)

pub eight_one : One its.word.eight.ended (λ M 𝓤. its.word.eight.clauses)
eight_one w κs a g = equation w (λ u v. refl)

pub six-one : One its.word.six.ended (λ M 𝓤. its.word.six.clauses)
six-one w κs a g = equation w (λ u v. refl)

pub four-one : One its.word.four.ended (λ M 𝓤. its.word.four.clauses)
four-one w κs a g = equation w (λ u v. refl)

pub five_one : One its.word.five.ended (λ M 𝓤. its.word.five.clauses)
five_one w κs a g = equation w (λ u v. refl)
