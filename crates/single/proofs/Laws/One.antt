-- How a contract is seen to leave one answer, by its form.
--     leaves            what it says of an answer and of last values is a plain fact, and two such facts give two equations
--     equation          the answer, or what is seen of it, equals a definition, and nothing is lent to be written
--     asks, says         several facts side by side, as a contract of several clauses has them: asked of a caller, and known of an answer
--     answers            two answers of which a contract says two facts each
--     lent, lent_both    last values are equal where those of the one or two parameters that are lent are: so many parameters stand before, between
--                       and behind them
-- Assumes nothing.
use Prim.Native.Nat.{ℕ, zero, suc}
use mathlib.Core.Path.{◌≡◌, sym, ap, ◌∙◌}
use base.Logic.{SProp, ent, emp, sep, id⊢, via, fst∗, snd∗}
use contract.Monad.{conj, conj_i, conj_l, conj_r, fact, fact_i, fact_use, fact_hold}
use borrow.Fn.World.{World}

-- what is to be shown, of a plain contract P
abbrev Leaves : (w : World) (R U : Type 0) → (R → U → Type 0) → {X : Type 0} → (R → X) → Type 1
Leaves w R U P see =
    ent w.𝓤 (emp w.𝓤) (emp w.𝓤)
    × ((r s : R) (u v : U) → ent w.𝓤 (conj w.𝓤 (fact w.𝓤 (P r u)) (fact w.𝓤 (P s v))) (fact w.𝓤 ((see r ≡ see s) × (u ≡ v))))

both : (w : World) (φ ψ χ : Type 0) → (φ → ψ → χ) → ent w.𝓤 (conj w.𝓤 (fact w.𝓤 φ) (fact w.𝓤 ψ)) (fact w.𝓤 χ)
both w φ ψ χ h =
    fact_use w.𝓤 φ (conj_l w.𝓤 (fact w.𝓤 φ) (fact w.𝓤 ψ)) (λ p.
    fact_use w.𝓤 ψ (conj_r w.𝓤 (fact w.𝓤 φ) (fact w.𝓤 ψ)) (λ q.
    fact_i w.𝓤 χ (conj w.𝓤 (fact w.𝓤 φ) (fact w.𝓤 ψ)) (h p q)))

pub leaves : (w : World) {R U X : Type 0} {P : R → U → Type 0} {see : R → X} → ((r s : R) (u v : U) → P r u → P s v → (see r ≡ see s) × (u ≡ v)) → Leaves w R U P see
leaves w {P} {see} h = (id⊢ w.𝓤 (emp w.𝓤), λ r s u v. both w (P r u) (P s v) ((see r ≡ see s) × (u ≡ v)) (h r s u v))

pub equation : (w : World) {R U X : Type 0} {see : R → X} {x : X} → ((u v : U) → u ≡ v) → Leaves w R U (λ r u. see r ≡ x) see
equation w nothing = leaves w (λ r s u v e f. (e ∙ sym f, nothing u v))

-- ---- several clauses
pub asks : (w : World) {φ : Type 0} (Q : SProp w.𝓤) → φ → ent w.𝓤 (emp w.𝓤) Q → ent w.𝓤 (emp w.𝓤) (sep w.𝓤 (fact w.𝓤 φ) Q)
asks w {φ} Q x h = via w.𝓤 (conj w.𝓤 (fact w.𝓤 φ) Q) (conj_i w.𝓤 (fact w.𝓤 φ) Q (fact_i w.𝓤 φ (emp w.𝓤) x) h) (fact_hold w.𝓤 φ Q)

pub says : (w : World) (φ ψ : Type 0) → ent w.𝓤 (sep w.𝓤 (fact w.𝓤 φ) (fact w.𝓤 ψ)) (fact w.𝓤 (φ × ψ))
says w φ ψ =
    fact_use w.𝓤 φ (fst∗ w.𝓤 (fact w.𝓤 φ) (fact w.𝓤 ψ)) (λ p.
    fact_use w.𝓤 ψ (snd∗ w.𝓤 (fact w.𝓤 φ) (fact w.𝓤 ψ)) (λ q.
    fact_i w.𝓤 (φ × ψ) (sep w.𝓤 (fact w.𝓤 φ) (fact w.𝓤 ψ)) (p, q)))

pub answers : (w : World) {φ ψ φ' ψ' χ : Type 0} → (φ × ψ → φ' × ψ' → χ)
    → ent w.𝓤 (conj w.𝓤 (sep w.𝓤 (fact w.𝓤 φ) (fact w.𝓤 ψ)) (sep w.𝓤 (fact w.𝓤 φ') (fact w.𝓤 ψ'))) (fact w.𝓤 χ)
answers w {φ} {ψ} {φ'} {ψ'} {χ} h =
    let L = sep w.𝓤 (fact w.𝓤 φ) (fact w.𝓤 ψ) in
    let R = sep w.𝓤 (fact w.𝓤 φ') (fact w.𝓤 ψ') in
    fact_use w.𝓤 (φ × ψ) (via w.𝓤 L (conj_l w.𝓤 L R) (says w φ ψ)) (λ p.
    fact_use w.𝓤 (φ' × ψ') (via w.𝓤 R (conj_r w.𝓤 L R) (says w φ' ψ')) (λ q.
    fact_i w.𝓤 χ (conj w.𝓤 L R) (h p q)))

-- ---- the last values
abbrev Behind : ℕ → Type 0 → Type 0
Behind zero X = X
Behind (suc n) X = Unit {0} × Behind n X

abbrev behind : (n : ℕ) {X : Type 0} → X → Behind n X
behind zero x = x
behind (suc n) x = (tt, behind n x)

abbrev Lent : ℕ → ℕ → Type 0 → Type 0
Lent n m X = Behind n (X × Behind m (Unit {0}))

pub lent : (n m : ℕ) {R X : Type 0} {r s : R} {x y : X} → (r ≡ s) × (x ≡ y)
    → (r ≡ s) × (◌≡◌ {A = Lent n m X} (behind n (x, behind m tt)) (behind n (y, behind m tt)))
lent n m e = (e.0, ap (λ x. behind n (x, behind m tt)) e.1)

pub lent_both : (n k m : ℕ) {R X Y : Type 0} {r s : R} {x y : X} {p q : Y} → (r ≡ s) × (x ≡ y) × (p ≡ q)
    → (r ≡ s) × (◌≡◌ {A = Behind n (X × Lent k m Y)} (behind n (x, behind k (p, behind m tt))) (behind n (y, behind k (q, behind m tt))))
lent_both n k m e = (e.0, λ i. behind n (e.1 i, behind k (e.2 i, behind m tt)))
