-- The contract of each public function asks nothing and leaves one answer, with one content of all that is lent to be written.
-- Assumes nothing.
use mathlib.Core.Path.{refl}
use Rattle.single.specs.One.{One}
use Rattle.single.proofs.Laws.One.{equation, leaves, lent}
use Rattle.audit.proofs.Laws.Turn.{watches_one}
use Rattle.audit.specs.contracts as its

pub watch_part_one : One its.feed.watch_part.ended (λ M 𝓤. its.feed.watch_part.clauses)
watch_part_one w κs a g = leaves w (λ r s u v e f. lent 1 2 (watches_one e f))

pub watch_last_one : One its.feed.watch_last.ended (λ M 𝓤. its.feed.watch_last.clauses)
watch_last_one w κs a g = equation w (λ u v. refl)

pub found_in-one : One its.found.found_in.ended (λ M 𝓤. its.found.found_in.clauses)
found_in-one w κs a g = equation w (λ u v. refl)

pub check_master_one : One its.check_master.ended (λ M 𝓤. its.check_master.clauses)
check_master_one w κs a g = equation w (λ u v. refl)

pub judge_one : One its.watch.judge.ended (λ M 𝓤. its.watch.judge.clauses)
judge_one w κs a g = equation w (λ u v. refl)
