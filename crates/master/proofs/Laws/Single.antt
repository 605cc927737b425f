-- The contract of each public function asks nothing and leaves one answer, with one content of all that is lent to be written.
-- Assumes nothing.
use mathlib.Core.Path.{refl}
use Rattle.single.specs.One.{One}
use Rattle.single.proofs.Laws.One.{equation}
use Rattle.master.specs.contracts as its

pub lex_master_one : One its.read.lex_master.ended (λ M 𝓤. its.read.lex_master.clauses)
lex_master_one w κs a g = equation w (λ u v. refl)

pub master_new_one : One its.record.Master.new.ended (λ M 𝓤. its.record.Master.new.clauses)
master_new_one w κs a g = equation w (λ u v. refl)

pub master_rows_one : One its.rows.master_rows.ended (λ M 𝓤. its.rows.master_rows.clauses)
master_rows_one w κs a g = equation w (λ u v. refl)
