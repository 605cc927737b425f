-- The contract of each public function asks nothing and leaves one answer, with one content of all that is lent to be written.
-- Assumes nothing.
use mathlib.Core.Path.{refl, sym, ◌∙◌}
use Rattle.single.specs.One.{One, OneBy}
use Rattle.single.proofs.Laws.One.{equation, leaves}
use Rattle.walker.specs.contracts as its

pub new_one : One its.new.ended (λ M 𝓤. its.new.clauses)
new_one w κs a g = leaves w (λ r s u v e f. (λ i. record { file = (e.0 ∙ sym f.0) i; at = (e.1 ∙ sym f.1) i }, refl))

pub next_one : One its.next.ended (λ M 𝓤. its.next.clauses)
next_one w κs a g = equation w (λ u v. refl)

pub moved-one : One its.moved.ended (λ M 𝓤. its.moved.clauses)
moved-one w κs a g = leaves w (λ r s u v e f. (λ i. record { file = (e.0 ∙ sym f.0) i; at = (e.1 ∙ sym f.1) i }, refl))

pub step-one : One its.step.ended (λ M 𝓤. its.step.clauses)
step-one w κs a g = equation w (λ u v. refl)

pub following_one : One its.following.ended (λ M 𝓤. its.following.clauses)
following_one w κs a g = leaves w (λ r s u v e f. (e ∙ sym f, refl))

pub line_at_one : One its.lines.line_at.ended (λ M 𝓤. its.lines.line_at.clauses)
line_at_one w κs a g = equation w (λ u v. refl)

pub line-one : OneBy its.lines.line.ended (λ M 𝓤. its.lines.line.clauses) (λ κs. (λ x. x.now))
line-one w κs a g = equation w (λ u v. refl)
