-- The contract of each public function asks nothing and leaves one answer, with one content of all that is lent to be written.
-- Assumes nothing.
use mathlib.Core.Path.{refl}
use Rattle.single.specs.One.{One}
use Rattle.single.proofs.Laws.One.{equation}
use Rattle.transformation.specs.contracts as its

pub lex_numbered_one : One its.read.lex_numbered.ended (λ M 𝓤. its.read.lex_numbered.clauses)
lex_numbered_one w κs a g = equation w (λ u v. refl)

pub lex_mtrix_one : One its.read.lex_mtrix.ended (λ M 𝓤. its.read.lex_mtrix.clauses)
lex_mtrix_one w κs a g = equation w (λ u v. refl)

pub transformation_new_one : One its.record.Transformation.new.ended (λ M 𝓤. its.record.Transformation.new.clauses)
transformation_new_one w κs a g = equation w (λ u v. refl)

pub numbered_row_new_one : One its.record.NumberedRow.new.ended (λ M 𝓤. its.record.NumberedRow.new.clauses)
numbered_row_new_one w κs a g = equation w (λ u v. refl)

pub mtrix_new_one : One its.record.MtriX.new.ended (λ M 𝓤. its.record.MtriX.new.clauses)
mtrix_new_one w κs a g = equation w (λ u v. refl)

pub numbered_rows_one : One its.rows.numbered_rows.ended (λ M 𝓤. its.rows.numbered_rows.clauses)
numbered_rows_one w κs a g = equation w (λ u v. refl)

pub mtrix_rows_one : One its.rows.mtrix_rows.ended (λ M 𝓤. its.rows.mtrix_rows.clauses)
mtrix_rows_one w κs a g = equation w (λ u v. refl)
