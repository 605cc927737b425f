-- The contract of each public function asks nothing and leaves one answer, with one content of all that is lent to be written.
-- Assumes nothing.
use mathlib.Core.Path.{refl}
use Rattle.single.specs.One.{One}
use Rattle.single.proofs.Laws.One.{equation}
use Rattle.remark.specs.contracts as its

pub lex_remark_one : One its.read.lex_remark.ended (λ M 𝓤. its.read.lex_remark.clauses)
lex_remark_one w κs a g = equation w (λ u v. refl)

pub remark_new_one : One its.record.Remark.new.ended (λ M 𝓤. its.record.Remark.new.clauses)
remark_new_one w κs a g = equation w (λ u v. refl)

pub remark_rows_one : One its.rows.remark_rows.ended (λ M 𝓤. its.rows.remark_rows.clauses)
remark_rows_one w κs a g = equation w (λ u v. refl)
