-- The contract of each public function asks nothing and leaves one answer, with one content of all that is lent to be written.
-- Assumes nothing.
use Prim.Native.Nat.{ℕ}
use mathlib.Core.Path.{refl}
use base.Logic.{emp, sep, via, emp∗, mono_l}
use contract.BorrowLft.{⊑_static}
use contract.Monad.{fact_i}
use denote.Param.{number}
use Rattle.single.specs.One.{One}
use Rattle.single.proofs.Laws.One.{equation}
use Rattle.real.specs.contracts as its

-- a number has no lifetime, so nothing is asked of it
pub coded_one : (places : ℕ) → One (its.coded.ended (number places)) (λ M 𝓤. its.coded.clauses (number places))
coded_one places w κs a g = (
  via w.𝓤 (sep w.𝓤 (emp w.𝓤) (emp w.𝓤)) (emp∗ w.𝓤 (emp w.𝓤)) (mono_l w.𝓤 (emp w.𝓤) (fact_i w.𝓤 _ (emp w.𝓤) (⊑_static _))),
  (equation w (λ u v. refl)).1,
)

pub read_real_one : One its.read_real.ended (λ M 𝓤. its.read_real.clauses)
read_real_one w κs a g = equation w (λ u v. refl)

pub read_ten_thousandths_one : One its.read_ten_thousandths.ended (λ M 𝓤. its.read_ten_thousandths.clauses)
read_ten_thousandths_one w κs a g = equation w (λ u v. refl)

pub read_exponent_one : One its.wide.read_exponent.ended (λ M 𝓤. its.wide.read_exponent.clauses)
read_exponent_one w κs a g = equation w (λ u v. refl)
