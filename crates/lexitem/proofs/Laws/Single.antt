-- The contract of each public function asks nothing and leaves one answer, with one content of all that is lent to be written.
-- Assumes nothing.
use mathlib.Core.Path.{refl}
use Rattle.single.specs.One.{One}
use Rattle.single.proofs.Laws.One.{equation}
use Rattle.lexitem.specs.contracts as its

pub refusal_new_one : One its.answer.Refusal.new.ended (λ M 𝓤. its.answer.Refusal.new.clauses)
refusal_new_one w κs a g = equation w (λ u v. refl)

pub bound_of-one : One its.bound.bound_of.ended (λ M 𝓤. its.bound.bound_of.clauses)
bound_of-one w κs a g = equation w (λ u v. refl)

pub linefaults_none_one : One its.fault.LineFaults.none.ended (λ M 𝓤. its.fault.LineFaults.none.clauses)
linefaults_none_one w κs a g = equation w (λ u v. refl)

pub linefaults_of_one : One its.fault.LineFaults.of.ended (λ M 𝓤. its.fault.LineFaults.of.clauses)
linefaults_of_one w κs a g = equation w (λ u v. refl)

pub linefaults_at_one : One its.fault.LineFaults.at.ended (λ M 𝓤. its.fault.LineFaults.at.clauses)
linefaults_at_one w κs a g = equation w (λ u v. refl)

pub lexitem_kind_one : One its.item.LexItem.kind.ended (λ M 𝓤. its.item.LexItem.kind.clauses)
lexitem_kind_one w κs a g = equation w (λ u v. refl)

pub rows_of-one : One its.item.rows_of.ended (λ M 𝓤. its.item.rows_of.clauses)
rows_of-one w κs a g = equation w (λ u v. refl)

pub lex_as_one : One its.read.lex_as.ended (λ M 𝓤. its.read.lex_as.clauses)
lex_as_one w κs a g = equation w (λ u v. refl)
