-- The contract of `absorb` leaves nothing free: two answers that it allows coincide, with every lent byte.
-- Assumes nothing.
use Prim.Native.Nat.{ℕ}
use mathlib.Core.Path.{◌≡◌, refl, sym, ap, ◌∙◌}
use mathlib.Core.List.{List}
use Rattle.carry.specs.Held.{State, Absorbs}
use Rattle.carry.specs.declared.held.Held.{Held}
use Rattle.carry.specs.declared.keep.Absorbed.{Absorbed}

alike : (h k : Held) (i j : ℕ) → h ≡ k → i ≡ j → ◌≡◌ {A = Absorbed} (record { held = h; at = i }) (record { held = k; at = j })
alike h k i j e f = rw (e, f) refl

module _ {s : State} {t : List ℕ} {at : ℕ} {kept lent : List ℕ} {r q : Absorbed} where
  pub absorbs_one : Absorbs s t at kept r → Absorbs s t at lent q → (r ≡ q) × (kept ≡ lent)
  absorbs_one a b =
      let same = a.state ∙ sym b.state in
      (alike r.held q.held r.at q.at (ap (λ (x : State). x.held) same) (a.offset ∙ sym b.offset), ap (λ (x : State). x.kept) same)
