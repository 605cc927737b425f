-- What there is to write for what is held, by the code's steps.
--     text-over, text-line      bytes that no LF ended
--     ended-over, ended-line    a line that an LF ended
--     turn-full, turn-none, turn-ended    the three ends of a turn
-- Assumes nothing.
use Prim.Native.Nat.{ℕ, zero, suc, ◌+◌, ◌-◌, ◌<◌, ◌≤◌}
use mathlib.Core.Path.{◌≡◌, refl, sym, ap, ◌∙◌, subst}
use mathlib.Core.Bool.{Bool, true, false, cond}
use mathlib.Core.List.{List, [], ◌∷◌, ◌++◌}
use native.Mathlib.Nat.{zero-add}
use native.Mathlib.Omega.{arith}
use borrow.Author.Tests.{le-ltb, lt-ltb, eq-eqb, ne_eqb, eqb-false}
use lib.ListN.{length, take, drop, get_or, length-drop, take-append-drop}
use lib.Seq.{length-take-le, take-append-le, take-nil, get_or-take}
use lib.Dec.{eqb}
use Rattle.page.specs.Page.{page, put}
use Rattle.page.proofs.Laws.Page.{put_then}
use Rattle.repair.specs.Repair.{line_for, Repairs}
use Rattle.repair.specs.declared.Repaired.{Repaired}
use Rattle.walker.specs.Lines.{number_behind}
use Rattle.pdbmend.specs.Held.{State, state, none, stop, size_in, most_kept, Absorbs}
use Rattle.pdbmend.specs.Turn.{text_said, ended_said, absorbed, turn, Puts, Turns}
use Rattle.pdbmend.specs.declared.held.Absorbed.{Absorbed}
use Rattle.pdbmend.specs.declared.held.Held.{Held}

-- ---- a part of the bytes that are kept
pub size-le : (t : List ℕ) (n : ℕ) → size_in t n ≤ n
unfolding size_in
size-le t n = go (eqb n 0) (eqb (get_or t (n - 1) 0) 13)
  where
    go : (x y : Bool) → cond x 0 (cond y (n - 1) n) ≤ n
    go true y = omega arith
    go false true = omega arith
    go false false = omega arith

drop-take : (a b : ℕ) (l : List ℕ) → drop a (take (a + b) l) ≡ take b (drop a l)
drop-take zero b l = ap (λ (k : ℕ). take k l) (zero-add b)
drop-take (suc a) b [] = let e : suc a + b ≡ suc (a + b) = omega arith in rw e (sym (take-nil b))
drop-take (suc a) b (x ∷ l) = let e : suc a + b ≡ suc (a + b) = omega arith in rw e (drop-take a b l)

module _ (kept : List ℕ) (n : ℕ) (h : n ≤ length kept) where
  size-text : size_in (take n kept) (length (take n kept)) ≡ size_in kept n
  unfolding size_in
  size-text = rw (length-take-le n kept h) (go (eqb n 0) refl)
    where
      go : (x : Bool) → eqb n 0 ≡ x
          → cond x 0 (cond (eqb (get_or (take n kept) (n - 1) 0) 13) (n - 1) n) ≡ cond x 0 (cond (eqb (get_or kept (n - 1) 0) 13) (n - 1) n)
      go true e = refl
      go false e = let z = eqb-false n 0 e in rw (get_or-take n kept (n - 1) 0 (omega arith)) refl

  take-text : (k : ℕ) → k ≤ n → take k (take n kept) ≡ take k kept
  take-text k g =
      let m = length-take-le n kept h in
      sym (take-append-le k (take n kept) (drop n kept) (omega arith)) ∙ ap (take k) (take-append-drop n kept)

  drop-text : (k : ℕ) → k ≤ n → drop k (take n kept) ≡ take (n - k) (drop k kept)
  drop-text k g =
      let e : n ≡ k + (n - k) = omega arith in
      ap (λ (m : ℕ). drop k (take m kept)) e ∙ drop-take k (n - k) kept

-- ---- what is put for it
module _ (h : Held) (kept out rows : List ℕ) where
  pub text-over : (written : List ℕ) (n : ℕ) → h.over ≡ true → page written n ≡ put (page out 0) (take h.n kept)
      → Puts (text_said (state h kept)) out rows written rows (record { n = n; rows = 0 })
  unfolding put
  text-over written n e p = record { puts = rw e p; tells = rw e refl }

  pub text-line : (written told : List ℕ) (r : Repaired) → h.over ≡ false → 1024 ≤ length out
      → Repairs (take h.n kept) h.number out rows written told r → Puts (text_said (state h kept)) out rows written told r
  text-line written told r e room s =
      let t = le-ltb (length out) 1024 room in
      record { puts = rw e (rw t at s.puts); tells = rw e (rw t at s.tells) }

  pub ended-over : (first written : List ℕ) (m n : ℕ) → h.over ≡ true → page first m ≡ put (page out 0) (take h.n kept)
      → page written n ≡ put (page first m) (10 ∷ []) → Puts (ended_said (state h kept)) out rows written rows (record { n = n; rows = 0 })
  unfolding put
  ended-over first written m n e p q =
      record { puts = rw e (put_then (page out 0) (page first m) (page written n) (take h.n kept) (10 ∷ []) p q); tells = rw e refl }

  pub ended-line : (first second written told : List ℕ) (r : Repaired) (size m n : ℕ) → h.over ≡ false → 1024 ≤ length out → h.n ≤ length kept
      → size ≡ size_in kept h.n → Repairs (take size kept) h.number out rows first told r
      → page second m ≡ put (page first r.n) (take (h.n - size) (drop size kept)) → page written n ≡ put (page second m) (10 ∷ [])
      → Puts (ended_said (state h kept)) out rows written told (record { n = n; rows = r.rows })
  ended-line first second written told r size m n e room all w s p q =
      let t = le-ltb (length out) 1024 room in
      let le = size-le kept h.n in
      let k = size_in kept h.n in
      let a : put (page out 0) (line_for (take k kept)) ≡ page first r.n = sym (rw w at (rw t at s.puts)) in
      record {
        puts =
            rw (e, size-text kept h.n all, take-text kept h.n all k le, drop-text kept h.n all k le)
            (put_then (page out 0) (page second m) (page written n) (line_for (take k kept) ++ take (h.n - k) (drop k kept)) (10 ∷ [])
            (put_then (page out 0) (page first r.n) (page second m) (line_for (take k kept)) (take (h.n - k) (drop k kept)) (sym a) (rw w at p))
            q);
        tells = rw (e, size-text kept h.n all, take-text kept h.n all k le) (rw w at (rw t at s.tells));
      }

-- ---- a turn
module _ (held : Held) (kept part : List ℕ) (at : ℕ) (after : List ℕ) (a : Absorbed) (h : Absorbs held.n kept (drop at part) at after a) where
  abbrev whole : Held
  whole = record { n = a.n; over = held.over; number = held.number }

  same : ◌≡◌ {A = State} (state whole after) (absorbed (state held kept) (drop at part))
  same = rw (h.count, h.keeps) refl

  module _ (out rows written told : List ℕ) (r : Repaired) where
    pub turn-full : a.n ≡ most_kept → Puts (text_said (state whole after)) out rows written told r
        → Turns (turn (state held kept) (drop at part)) at out rows written told after
        (record { held = record { n = 0; over = true; number = held.number }; at = a.at; n = r.n; rows = r.rows })
    unfolding turn
    turn-full e p =
        let q = subst (λ (x : State). Puts (text_said x) out rows written told r) same p in
        rw (eq-eqb (held.n + stop (most_kept - held.n) (drop at part)) most_kept (sym h.count ∙ e))
        (record { holds = rw h.keeps refl; offset = h.offset; puts = q.puts; tells = q.tells })

    pub turn-ended : (a.n ≡ most_kept → ⊥) → a.at < length part → Puts (ended_said (state whole after)) out rows written told r → (next : Held) (number : ℕ)
        → number ≡ number_behind held.number → next ≡ none number
        → Turns (turn (state held kept) (drop at part)) at out rows written told after (record { held = next; at = a.at + 1; n = r.n; rows = r.rows })
    unfolding turn
    turn-ended e l p next number f g =
        let q = subst (λ (x : State). Puts (ended_said x) out rows written told r) same p in
        let o = h.offset in
        let d = length-drop at part in
        rw (
          ne_eqb (held.n + stop (most_kept - held.n) (drop at part)) most_kept (λ z. e (h.count ∙ z)),
          lt-ltb (stop (most_kept - held.n) (drop at part)) (length (drop at part)) (omega arith),
        )
        (record { holds = rw (g, f, h.keeps) refl; offset = omega arith; puts = q.puts; tells = q.tells })

  pub turn-none : (out rows : List ℕ) → (a.n ≡ most_kept → ⊥) → length part ≤ a.at
      → Turns (turn (state held kept) (drop at part)) at out rows out rows after (record { held = whole; at = a.at; n = 0; rows = 0 })
  unfolding turn put
  turn-none out rows e l =
      let o = h.offset in
      let d = length-drop at part in
      rw (
        ne_eqb (held.n + stop (most_kept - held.n) (drop at part)) most_kept (λ z. e (h.count ∙ z)),
        le-ltb (stop (most_kept - held.n) (drop at part)) (length (drop at part)) (omega arith),
      )
      (record { holds = same; offset = o; puts = refl; tells = refl })
