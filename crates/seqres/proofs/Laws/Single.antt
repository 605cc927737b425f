-- The contract of each public function asks nothing and leaves one answer, with one content of all that is lent to be written.
-- Assumes nothing.
use mathlib.Core.Path.{refl}
use Rattle.single.specs.One.{One}
use Rattle.single.proofs.Laws.One.{equation}
use Rattle.seqres.specs.contracts as its

pub lex_seqres_one : One its.read.lex_seqres.ended (λ M 𝓤. its.read.lex_seqres.clauses)
lex_seqres_one w κs a g = equation w (λ u v. refl)

pub seqres_new_one : One its.record.Seqres.new.ended (λ M 𝓤. its.record.Seqres.new.clauses)
seqres_new_one w κs a g = equation w (λ u v. refl)

pub seqres_triple_one : One its.record.Seqres.triple.ended (λ M 𝓤. its.record.Seqres.triple.clauses)
seqres_triple_one w κs a g = equation w (λ u v. refl)

pub seqres_rows_one : One its.rows.seqres_rows.ended (λ M 𝓤. its.rows.seqres_rows.clauses)
seqres_rows_one w κs a g = equation w (λ u v. refl)
