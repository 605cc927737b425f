-- What it is worth that a contract leaves one answer.
--     plain      an entailment between plain facts is an implication: where the contract allows two answers, with their last values, they are equal
--     silent     a contract that says nothing of its answer, a number, doesn't leave one
-- Assumes nothing.
use mathlib.Core.Path.{◌≡◌, refl}
use mathlib.Core.List.{[]}
use mathlib.Core.Logic.{∥∥₁_map, ∥∥₁_elim}
use native.Mathlib.Omega.{arith}
use base.Logic.{ent, emp}
use contract.Monad.{conj, fact}
use denote.Builtin.{usize}
use denote.Signature as signature
use denote.Triple.Clauses.{Ended}
use borrow.Fn.World.{World, w₀}
use Rattle.single.specs.One.{Contract, One}

pub plain : (w : World) {φ ψ χ : Type 0} → ent w.𝓤 (conj w.𝓤 (fact w.𝓤 φ) (fact w.𝓤 ψ)) (fact w.𝓤 χ) → φ → ψ → ∥ χ ∥₁
plain w e p q = ∥∥₁_map (e.apply w.𝓤.one (∣ (p, tt) ∣₁, ∣ (q, tt) ∣₁)) (λ t. t.0)

-- a function of no arguments that answers a number, and says nothing of it
abbrev number : Ended
number = record { signature = record { lifetimes = 0; outlives = []; params = []; result = signature.plain (λ κs. usize) }; kept = tt }

abbrev nothing : Contract number
nothing M 𝓤 𝓛 mem run κs a = record { ghost = Unit {0}; requires = λ g. emp 𝓤; ensures = λ g r e. fact 𝓤 (r ≡ r) }

pub silent : One number nothing → ⊥
silent one = ∥∥₁_elim (plain w₀ ((one w₀ tt tt tt).1 0 1 tt tt) refl refl) (λ x y. absurd x) (λ t. absurd (omega (arith, t.0)))
