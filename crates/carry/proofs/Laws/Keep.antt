-- A turn of the loop that keeps the bytes up to an LF.
--     keep-made                                what a byte leaves
--     absorb_here, absorb_next, absorb_none    at the LF, at another byte, and at the end
--     ended-at                                 where the loop ends
-- Assumes nothing.
use Prim.Native.Nat.{ℕ, ◌+◌, ◌≤◌, ◌<◌, min, max}
use mathlib.Core.Path.{◌≡◌, refl}
use mathlib.Core.Bool.{Bool, true, false}
use mathlib.Core.List.{List}
use native.Mathlib.Numerals.{add-one}
use native.Mathlib.Omega.{arith}
use borrow.Author.Tests.{eq-eqb, ne_eqb, leb-true, leb-false}
use lib.ListN.{length, drop, get_or, drop_of_length-le}
use lib.Seq.{drop-cons}
use lib.Dec.{eqb, leb}
use Rattle.walker.specs.Lines.{before_lf}
use Rattle.walker.proofs.Laws.Pieces.{lf-none}
use Rattle.carry.specs.Held.{State, keep, absorbed, most_count, stored}

pub keep-made : (total total' number b : ℕ) (cr : Bool) (kept kept' : List ℕ) → total' ≡ min (total + 1) most_count → kept' ≡ stored kept total b
    → ◌≡◌ {A = State} (record { held = record { total = total'; cr = eqb b 13; number = number }; kept = kept' })
    (keep (record { held = record { total = total; cr = cr; number = number }; kept = kept }) b)
unfolding keep
keep-made total total' number b cr kept kept' e f = rw (e, f) refl

module _ (part : List ℕ) (i : ℕ) (s e : State) (v : absorbed s (drop i part) ≡ e) where
  pub absorb_here : i < length part → get_or part i 0 ≡ 10 → s ≡ e
  unfolding absorbed
  absorb_here l h = rw (eq-eqb (get_or part i 0) 10 h) at (rw (drop-cons part i 0 l) at v)

  pub absorb_next : (s' : State) → i < length part → (get_or part i 0 ≡ 10 → ⊥) → s' ≡ keep s (get_or part i 0) → absorbed s' (drop (i + 1) part) ≡ e
  unfolding absorbed
  absorb_next s' l h k = rw (k, add-one i) (rw (ne_eqb (get_or part i 0) 10 h) at (rw (drop-cons part i 0 l) at v))

  pub absorb_none : length part ≤ i → s ≡ e
  unfolding absorbed
  absorb_none l = rw (drop_of_length-le part l) at v

-- where the loop ends: at the part's end, or at the offset that it began with
pub ended-at : (part : List ℕ) (at i : ℕ) → length part ≤ i → (at ≤ length part → i ≤ length part)
    → i + before_lf (drop i part) ≡ at + before_lf (drop at part) → max at (length part) ≡ at + before_lf (drop at part)
ended-at part at i l u e = go (leb at (length part)) refl
  where
    go : (b : Bool) → leb at (length part) ≡ b → max at (length part) ≡ at + before_lf (drop at part)
    go true h = let k = u (leb-true at (length part) h) in omega (arith, lf-none part i l)
    go false h = let k = leb-false at (length part) h in omega (arith, lf-none part at (omega arith))
