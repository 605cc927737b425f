-- The contract of each public function asks nothing and leaves one answer, with one content of all that is lent to be written.
-- Assumes nothing.
use mathlib.Core.Path.{refl}
use Rattle.single.specs.One.{One}
use Rattle.single.proofs.Laws.One.{equation}
use Rattle.field.specs.contracts as its

pub fine_charge-one : One its.charge.fine_charge.ended (λ M 𝓤. its.charge.fine_charge.clauses)
fine_charge-one w κs a g = equation w (λ u v. refl)

pub charge-one : One its.charge.charge.ended (λ M 𝓤. its.charge.charge.clauses)
charge-one w κs a g = equation w (λ u v. refl)

pub short-one : One its.number_field.short.ended (λ M 𝓤. its.number_field.short.clauses)
short-one w κs a g = equation w (λ u v. refl)

pub wrong-one : One its.number_field.wrong.ended (λ M 𝓤. its.number_field.wrong.clauses)
wrong-one w κs a g = equation w (λ u v. refl)

pub ends_before_one : One its.number_field.ends_before.ended (λ M 𝓤. its.number_field.ends_before.clauses)
ends_before_one w κs a g = equation w (λ u v. refl)

pub fine_unsigned-one : One its.number_field.fine_unsigned.ended (λ M 𝓤. its.number_field.fine_unsigned.clauses)
fine_unsigned-one w κs a g = equation w (λ u v. refl)

pub unsigned-one : One its.number_field.unsigned.ended (λ M 𝓤. its.number_field.unsigned.clauses)
unsigned-one w κs a g = equation w (λ u v. refl)

pub fine_signed-one : One its.number_field.fine_signed.ended (λ M 𝓤. its.number_field.fine_signed.clauses)
fine_signed-one w κs a g = equation w (λ u v. refl)

pub signed-one : One its.number_field.signed.ended (λ M 𝓤. its.number_field.signed.clauses)
signed-one w κs a g = equation w (λ u v. refl)

pub fine_real-one : One its.number_field.fine_real.ended (λ M 𝓤. its.number_field.fine_real.clauses)
fine_real-one w κs a g = equation w (λ u v. refl)

pub real-one : One its.number_field.real.ended (λ M 𝓤. its.number_field.real.clauses)
real-one w κs a g = equation w (λ u v. refl)

pub factor-one : One its.number_field.factor.ended (λ M 𝓤. its.number_field.factor.clauses)
factor-one w κs a g = equation w (λ u v. refl)

pub unsigned_from-one : One its.number_field.unsigned_from.ended (λ M 𝓤. its.number_field.unsigned_from.clauses)
unsigned_from-one w κs a g = equation w (λ u v. refl)

pub signed_four_one : One its.quick.signed_four.ended (λ M 𝓤. its.quick.signed_four.clauses)
signed_four_one w κs a g = equation w (λ u v. refl)

pub unsigned_five_one : One its.quick.unsigned_five.ended (λ M 𝓤. its.quick.unsigned_five.clauses)
unsigned_five_one w κs a g = equation w (λ u v. refl)

pub known-one : One its.remark.known.ended (λ M 𝓤. its.remark.known.clauses)
known-one w κs a g = equation w (λ u v. refl)

pub fine_text-one : One its.text_field.fine_text.ended (λ M 𝓤. its.text_field.fine_text.clauses)
fine_text-one w κs a g = equation w (λ u v. refl)

pub text-one : One its.text_field.text.ended (λ M 𝓤. its.text_field.text.clauses)
text-one w κs a g = equation w (λ u v. refl)

pub text_within-one : One its.text_field.text_within.ended (λ M 𝓤. its.text_field.text_within.clauses)
text_within-one w κs a g = equation w (λ u v. refl)

pub text_from-one : One its.text_field.text_from.ended (λ M 𝓤. its.text_field.text_from.clauses)
text_from-one w κs a g = equation w (λ u v. refl)

pub end_text_from-one : One its.text_field.end_text_from.ended (λ M 𝓤. its.text_field.end_text_from.clauses)
end_text_from-one w κs a g = equation w (λ u v. refl)

pub fine_character-one : One its.text_field.fine_character.ended (λ M 𝓤. its.text_field.fine_character.clauses)
fine_character-one w κs a g = equation w (λ u v. refl)

pub character_one : One its.text_field.character.ended (λ M 𝓤. its.text_field.character.clauses)
character_one w κs a g = equation w (λ u v. refl)

pub fine_optional-one : One its.text_field.fine_optional.ended (λ M 𝓤. its.text_field.fine_optional.clauses)
fine_optional-one w κs a g = equation w (λ u v. refl)

pub optional_one : One its.text_field.optional.ended (λ M 𝓤. its.text_field.optional.clauses)
optional_one w κs a g = equation w (λ u v. refl)
