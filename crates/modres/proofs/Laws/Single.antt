-- The contract of each public function asks nothing and leaves one answer, with one content of all that is lent to be written.
-- Assumes nothing.
use mathlib.Core.Path.{refl}
use Rattle.single.specs.One.{One}
use Rattle.single.proofs.Laws.One.{equation}
use Rattle.modres.specs.contracts as its

pub lex_modres_one : One its.read.lex_modres.ended (λ M 𝓤. its.read.lex_modres.clauses)
lex_modres_one w κs a g = equation w (λ u v. refl)

pub modres_new_one : One its.record.Modres.new.ended (λ M 𝓤. its.record.Modres.new.clauses)
modres_new_one w κs a g = equation w (λ u v. refl)

pub modres_rows_one : One its.rows.modres_rows.ended (λ M 𝓤. its.rows.modres_rows.clauses)
modres_rows_one w κs a g = equation w (λ u v. refl)
