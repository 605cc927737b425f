-- The contract of each public function asks nothing and leaves one answer, with one content of all that is lent to be written.
-- Assumes nothing.
use mathlib.Core.Path.{refl}
use Rattle.single.specs.One.{One}
use Rattle.single.proofs.Laws.One.{equation, leaves, lent}
use Rattle.carry.proofs.Laws.One.{absorbs_one}
use Rattle.carry.specs.contracts as its

pub held_none_one : One its.held.Held.none.ended (λ M 𝓤. its.held.Held.none.clauses)
held_none_one w κs a g = equation w (λ u v. refl)

pub held_ended_size_one : One its.held.Held.ended_size.ended (λ M 𝓤. its.held.Held.ended_size.clauses)
held_ended_size_one w κs a g = equation w (λ u v. refl)

pub absorb_one : One its.keep.absorb.ended (λ M 𝓤. its.keep.absorb.clauses)
absorb_one w κs a g = leaves w (λ r s u v e f. lent 1 2 (absorbs_one e f))

pub behind_last_one : One its.behind_last.ended (λ M 𝓤. its.behind_last.clauses)
behind_last_one w κs a g = equation w (λ u v. refl)
