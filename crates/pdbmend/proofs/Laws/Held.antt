-- A turn of the loop that keeps the bytes up to an LF.
--     absorb_here, absorb_full, absorb_next, absorb_none    at the LF, with no more room, at another byte, and at the end
--     stop_le            no more bytes are taken than there are, and than there is room for
-- Assumes nothing.
use Prim.Native.Nat.{ℕ, suc, ◌+◌, ◌-◌, ◌<◌, ◌≤◌}
use mathlib.Core.Path.{◌≡◌, refl, sym, ap, ◌∙◌}
use mathlib.Core.Bool.{Bool, true, false, cond, ◌||◌}
use mathlib.Core.List.{List, [], ◌∷◌}
use native.Mathlib.Numerals.{add-one}
use native.Mathlib.Omega.{arith}
use borrow.Author.Tests.{eq-eqb, ne_eqb, eqb-false}
use lib.ListN.{length, take, drop, get_or, set, drop_of_length-le}
use lib.Seq.{sets, drop-cons}
use lib.Dec.{eqb}
use Rattle.pdbmend.specs.Held.{stop, most_kept, filled, Absorbs}

pub stop_le : (room : ℕ) (t : List ℕ) → (stop room t ≤ length t) × (stop room t ≤ room)
unfolding stop
stop_le room [] = (omega arith, omega arith)
stop_le room (b ∷ t) = go (eqb b 10) (eqb room 0) refl (stop_le (room - 1) t)
  where
    go : (x y : Bool) → eqb room 0 ≡ y → (stop (room - 1) t ≤ length t) × (stop (room - 1) t ≤ room - 1)
        → (cond (x || y) 0 (suc (stop (room - 1) t)) ≤ suc (length t)) × (cond (x || y) 0 (suc (stop (room - 1) t)) ≤ room)
    go true y e h = (omega arith, omega arith)
    go false true e h = (omega arith, omega arith)
    go false false e h = let z = eqb-false room 0 e in (omega (arith, h.0), omega (arith, h.1))

-- what is taken behind k bytes, of which the last stands before i, is what is taken in all
pub record Taking (n : ℕ) (before part : List ℕ) (at k i : ℕ) (kept : List ℕ) : Type 0 where
  pub count : k + stop (most_kept - k) (drop i part) ≡ n + stop (most_kept - n) (drop at part)
  pub offset : i + stop (most_kept - k) (drop i part) ≡ at + stop (most_kept - n) (drop at part)
  pub bytes : filled k kept (drop i part) ≡ filled n before (drop at part)

module _ (n : ℕ) (before part : List ℕ) (at k i : ℕ) (kept : List ℕ) (v : Taking n before part at k i kept) where
  stopped : stop (most_kept - k) (drop i part) ≡ 0 → Absorbs n before (drop at part) at kept (record { n = k; at = i })
  stopped z =
      let c = v.count in
      let o = v.offset in
      record {
        count = omega arith;
        offset = omega arith;
        keeps = sym (ap (λ (m : ℕ). sets kept k (take m (drop i part))) z) ∙ v.bytes;
      }

  pub absorb_here : i < length part → get_or part i 0 ≡ 10 → Absorbs n before (drop at part) at kept (record { n = k; at = i })
  unfolding stop
  absorb_here l h = stopped (rw (drop-cons part i 0 l, eq-eqb (get_or part i 0) 10 h) refl)

  pub absorb_full : i < length part → most_kept ≤ k → Absorbs n before (drop at part) at kept (record { n = k; at = i })
  unfolding stop
  absorb_full l h =
      let z : most_kept - k ≡ 0 = omega arith in
      stopped (rw (drop-cons part i 0 l, z) (any (eqb (get_or part i 0) 10) (suc (stop (0 - 1) (drop (suc i) part)))))
    where
      any : (b : Bool) (m : ℕ) → cond (b || true) 0 m ≡ 0
      any true m = refl
      any false m = refl

  pub absorb_none : length part ≤ i → Absorbs n before (drop at part) at kept (record { n = k; at = i })
  unfolding stop
  absorb_none l = stopped (rw (drop_of_length-le part l) refl)

  -- one byte more
  pub absorb_next : i < length part → (get_or part i 0 ≡ 10 → ⊥) → k < most_kept
      → Taking n before part at (k + 1) (i + 1) (set kept k (get_or part i 0))
  unfolding stop
  absorb_next l h m =
      let room : most_kept - k ≡ 0 → ⊥ = λ z. omega arith in
      let less : most_kept - k - 1 ≡ most_kept - suc k = omega arith in
      let one : stop (most_kept - k) (drop i part) ≡ suc (stop (most_kept - suc k) (drop (suc i) part)) =
      rw (drop-cons part i 0 l, ne_eqb (get_or part i 0) 10 h, ne_eqb (most_kept - k) 0 room, less) refl in
      let c = v.count in
      let o = v.offset in
      record {
        count = rw (add-one k, add-one i) (omega arith);
        offset = rw (add-one k, add-one i) (omega arith);
        bytes =
            rw (add-one k, add-one i)
            (sym (ap (λ (d : List ℕ). sets kept k (take (suc (stop (most_kept - suc k) (drop (suc i) part))) d)) (drop-cons part i 0 l))
            ∙ sym (ap (λ (m : ℕ). sets kept k (take m (drop i part))) one)
            ∙ v.bytes);
      }
