-- The contract of each public function asks nothing and leaves one answer, with one content of all that is lent to be written.
-- Assumes nothing.
use mathlib.Core.Path.{refl}
use Rattle.single.specs.One.{One}
use Rattle.single.proofs.Laws.One.{equation}
use Rattle.seqadv.specs.contracts as its

pub lex_seqadv_one : One its.read.lex_seqadv.ended (λ M 𝓤. its.read.lex_seqadv.clauses)
lex_seqadv_one w κs a g = equation w (λ u v. refl)

pub seqadv_new_one : One its.record.Seqadv.new.ended (λ M 𝓤. its.record.Seqadv.new.clauses)
seqadv_new_one w κs a g = equation w (λ u v. refl)

pub seqadv_rows_one : One its.rows.seqadv_rows.ended (λ M 𝓤. its.rows.seqadv_rows.clauses)
seqadv_rows_one w κs a g = equation w (λ u v. refl)
