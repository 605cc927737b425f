-- The contract of each public function asks nothing and leaves one answer, with one content of all that is lent to be written.
-- Assumes nothing.
use mathlib.Core.Path.{refl}
use Rattle.single.specs.One.{One}
use Rattle.single.proofs.Laws.One.{equation}
use Rattle.model.specs.contracts as its

pub lex_model_one : One its.read.lex_model.ended (λ M 𝓤. its.read.lex_model.clauses)
lex_model_one w κs a g = equation w (λ u v. refl)

pub model_new_one : One its.record.Model.new.ended (λ M 𝓤. its.record.Model.new.clauses)
model_new_one w κs a g = equation w (λ u v. refl)

pub model_column_one : One its.record.Model.column.ended (λ M 𝓤. its.record.Model.column.clauses)
model_column_one w κs a g = equation w (λ u v. refl)

pub model_rows_one : One its.rows.model_rows.ended (λ M 𝓤. its.rows.model_rows.clauses)
model_rows_one w κs a g = equation w (λ u v. refl)
