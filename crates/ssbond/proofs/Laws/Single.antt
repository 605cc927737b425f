-- The contract of each public function asks nothing and leaves one answer, with one content of all that is lent to be written.
-- Assumes nothing.
use mathlib.Core.Path.{refl}
use Rattle.single.specs.One.{One}
use Rattle.single.proofs.Laws.One.{equation}
use Rattle.ssbond.specs.contracts as its

pub lex_ssbond_one : One its.read.lex_ssbond.ended (λ M 𝓤. its.read.lex_ssbond.clauses)
lex_ssbond_one w κs a g = equation w (λ u v. refl)

pub residue_new_one : One its.record.Residue.new.ended (λ M 𝓤. its.record.Residue.new.clauses)
residue_new_one w κs a g = equation w (λ u v. refl)

pub ssbond_new_one : One its.record.SSBond.new.ended (λ M 𝓤. its.record.SSBond.new.clauses)
ssbond_new_one w κs a g = equation w (λ u v. refl)

pub ssbond_rows_one : One its.rows.ssbond_rows.ended (λ M 𝓤. its.rows.ssbond_rows.clauses)
ssbond_rows_one w κs a g = equation w (λ u v. refl)
