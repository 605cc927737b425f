-- The answer of `mend_line`, by its two ends, and that of `refusal_of` by its three.
--     why-long, why-room, why-none    refusal 2, refusal 8, and none
--     room_for                        what no refusal says of the lengths
--     refused_when, accepted          whether the line is refused then
--     refused, done                   a line that is refused, and one that is mended
--     err_answer, ok_answer           what an answer says of the refusal, and of the lengths
-- Assumes nothing.
use Prim.Native.Nat.{ℕ, ◌+◌, ◌<◌, ◌≤◌}
use mathlib.Core.Path.{◌≡◌, refl, ap, ◌∙◌}
use mathlib.Core.Bool.{Bool, true, false, cond, ◌||◌}
use mathlib.Core.List.{List, ◌++◌}
use native.Mathlib.Nat.{zero-add}
use native.Mathlib.Omega.{arith}
use borrow.Author.Tests.{lt-ltb, le-ltb, ltb-false}
use lib.ListN.{length, drop}
use lib.Seq.{sets, sets-eq}
use lib.Dec.{ltb}
use Rattle.std.specs.Prelude.{Option, Some, None, Ok, Err}
use Rattle.lexer.specs.Refusals.{excess}
use Rattle.lexitem.specs.Answer.{refusal}
use Rattle.lexitem.specs.declared.answer.Refusal.{Refusal}
use Rattle.mend.specs.Mend.{padding, mended}
use Rattle.mend.specs.Changes.{changes_of, Notes, notes, note_all}
use Rattle.mend.specs.Mending.{refuses, refusal_of, mended_unless, answer_of, Mends}
use Rattle.mend.specs.declared.Mended.{Mended}
use Rattle.mend.proofs.Laws.Mended.{mended-length}
use Rattle.mend.proofs.Laws.Held.{noted_sets}
use Rattle.mend.proofs.Laws.Steps.{noted-length}

-- ---- the refusal
module _ (l : List ℕ) (room : ℕ) where
  pub why-long : 1024 < length l → Some (refusal 2 1024 (excess (length l))) ≡ refusal_of l room
  unfolding refusal_of
  why-long h = rw (lt-ltb 1024 (length l) h) refl

  module _ (pad : ℕ) (h : length l ≤ 1024) (p : pad ≡ padding l) where
    long : length (mended l) ≡ length l + pad
    long = omega (arith, mended-length l)

    pub why-room : room < length l + pad → Some (refusal 8 0 (length l + pad)) ≡ refusal_of l room
    unfolding refusal_of
    why-room k = rw (le-ltb 1024 (length l) h, long, lt-ltb room (length l + pad) k) refl

    pub why-none : length l + pad ≤ room → None ≡ refusal_of l room
    unfolding refusal_of
    why-none k = rw (le-ltb 1024 (length l) h, long, le-ltb room (length l + pad) k) refl

-- a line that has a refusal is refused
pub refused_when : (l : List ℕ) (room : ℕ) (why : Refusal) → Some why ≡ refusal_of l room → refuses l room ≡ true
unfolding refusal_of refuses
refused_when l room why h = go (ltb 1024 (length l)) (ltb room (length (mended l))) h
  where
    go : (x y : Bool) → Some why ≡ cond x (Some (refusal 2 1024 (excess (length l)))) (cond y (Some (refusal 8 0 (length (mended l)))) None) → x || y ≡ true
    go true y f = refl
    go false true f = refl
    go false false f = cc

-- no refusal: the line is short enough and has room
pub fits : (l : List ℕ) (room : ℕ) → None ≡ refusal_of l room → (length l ≤ 1024) × (length (mended l) ≤ room)
unfolding refusal_of
fits l room h = go (ltb 1024 (length l)) refl (ltb room (length (mended l))) refl h
  where
    go : (x : Bool) → ltb 1024 (length l) ≡ x → (y : Bool) → ltb room (length (mended l)) ≡ y
        → None ≡ cond x (Some (refusal 2 1024 (excess (length l)))) (cond y (Some (refusal 8 0 (length (mended l)))) None)
        → (length l ≤ 1024) × (length (mended l) ≤ room)
    go true e y f z = absurd cc
    go false e true f z = absurd cc
    go false e false f z = (ltb-false 1024 (length l) e, ltb-false room (length (mended l)) f)

pub room_for : (l : List ℕ) (room : ℕ) → None ≡ refusal_of l room → (pad : ℕ) → pad ≡ padding l → (length l ≤ 1024) × (length l + pad ≤ room)
room_for l room z pad p = let f = fits l room z in (f.0, omega (arith, mended-length l, f.1))

pub accepted : (l : List ℕ) (room : ℕ) → None ≡ refusal_of l room → refuses l room ≡ false
unfolding refuses
accepted l room z = let f = fits l room z in rw (le-ltb 1024 (length l) f.0, le-ltb room (length (mended l)) f.1) refl

-- ---- the answer
module _ (l out ws : List ℕ) where
  pub refused : (why : Refusal) → Some why ≡ refusal_of l (length out) → Mends l out ws (Err why) out ws
  refused why e =
      let t = refused_when l (length out) why e in
      record { answers = rw (← e) refl; writes = rw t refl; holds = rw t refl }

  pub done : None ≡ refusal_of l (length out) → (pad : ℕ) → pad ≡ padding l → (written held : List ℕ) (k : ℕ) → written ≡ sets out 0 (mended l)
      → notes held k ≡ note_all (notes ws 0) (changes_of l) → Mends l out ws (Ok (record { size = length l + pad; changes = k })) written held
  done z pad p written held k w n =
      let f = fits l (length out) z in
      let t = accepted l (length out) z in
      let m : length (mended l) ≡ length l + pad = omega (arith, mended-length l) in
      let c = noted-length ws held k (changes_of l) n in
      record {
        answers = rw (← z, m, ← c) refl;
        writes = rw t (w ∙ sets-eq (mended l) out 0 (omega (arith, f.1)) ∙ ap (λ (x : ℕ). mended l ++ drop x out) (zero-add (length (mended l))));
        holds = rw t (ap (λ (x : Notes). x.words) n ∙ noted_sets ws 0 (changes_of l));
      }

-- an answer says which it was
module _ (l : List ℕ) (room : ℕ) where
  pub err_answer : (r : Refusal) → Err r ≡ answer_of l room → Some r ≡ refusal_of l room
  err_answer r e = go (refusal_of l room) e
    where
      go : (o : Option Refusal) → Err r ≡ mended_unless l o → Some r ≡ o
      go (Some q) f = cc
      go None f = cc

  pub ok_answer : (m : Mended) → Ok m ≡ answer_of l room
      → (None ≡ refusal_of l room) × (m.size ≡ length (mended l)) × (m.changes ≡ length (changes_of l))
  ok_answer m e = go (refusal_of l room) e
    where
      go : (o : Option Refusal) → Ok m ≡ mended_unless l o → (None ≡ o) × (m.size ≡ length (mended l)) × (m.changes ≡ length (changes_of l))
      go (Some q) f = absurd cc
      go None f =
          let g : m ≡ record { size = length (mended l); changes = length (changes_of l) } = cc in
          (refl, ap (λ (x : Mended). x.size) g, ap (λ (x : Mended). x.changes) g)
