-- Laws of lines and of the steps from line to line.
--     lines-first                   the lines of a text are its first, and those of what that leaves
--     lines-le, lines-free          at most as many lines as bytes, and no LF in any of them
--     part-inside, part-outside     a part that lies in the file, and one that doesn't
--     step_in, step_end             what a step is inside the file, and exactly when it is the end
--     end-lines                     at the end there are no lines
--     Served, step-served           what a step to a line tells: that line, and then the lines from `next`, which lies further on
--     walked_from, walked_lines     step after step gives the lines, in order, once each, and then the end
-- Assumes nothing.
use Prim.Native.Nat.{ℕ, suc, ◌+◌, ◌-◌, ◌≤◌, ◌<◌}
use mathlib.Core.Path.{◌≡◌, refl, sym, ap, ◌∙◌}
use mathlib.Core.Logic.{◌↔◌, ◌⊎◌, inl, inr, ⊎_elim}
use mathlib.Core.Bool.{Bool, true, false, cond, ◌&&◌, ◌||◌}
use mathlib.Core.List.Memᴰ
use mathlib.Core.List.{List, [], ◌∷◌, Memᴰ}
use Rattle.std.proofs.Common.{Some, None}
use Rattle.std.proofs.lemmas.Option.{same_Some}
use native.Mathlib.Nat.{add-sub_cancel_left}
use native.Mathlib.Omega.{arith}
use borrow.Author.Tests.{lt-ltb, le-ltb, le-leb, lt-leb, ltb-true, ltb-false, eqb-false}
use lib.ListN.{length, take, drop, length-drop, drop_of_length-le}
use lib.Seq.{drop-drop}
use lib.Dec.{leb, ltb, eqb}
use Rattle.walker.specs.declared.Line.{Line}
use Rattle.walker.specs.Lines.{lf_first, cr_before, longer, lines_of, line_length, line_taken, line_of, step_at, part_of, walked_for, walked}
use Rattle.walker.proofs.Laws.Pieces.{length_taken, taken-le, taken-some}

-- ---- the first line
lines-lf : (t : List ℕ) → lf_first t ≡ true → lines_of t ≡ [] ∷ lines_of (drop (line_taken t) t)
unfolding lines_of line_taken lf_first
lines-lf [] e = cc
lines-lf (b ∷ t) e = rw e refl

cr-first : (b : ℕ) (t : List ℕ) → cr_before b t ≡ true → lf_first t ≡ true
cr-first b t e = go (eqb b 13) (lf_first t) e
  where
    go : (x y : Bool) → x && y ≡ true → y ≡ true
    go true y e = e
    go false y e = let z : false ≡ true = e in cc

longer-first : (b : ℕ) (t : List ℕ) → (0 < length t → lines_of t ≡ take (line_length t) t ∷ lines_of (drop (line_taken t) t))
    → longer b (lines_of t) ≡ (b ∷ take (line_length t) t) ∷ lines_of (drop (line_taken t) t)
unfolding longer lines_of line_length line_taken
longer-first b [] ih = refl
longer-first b (c ∷ t) ih = ap (longer b) (ih (omega arith))

pub lines-first : (t : List ℕ) → 0 < length t → lines_of t ≡ take (line_length t) t ∷ lines_of (drop (line_taken t) t)
unfolding lines_of line_length line_taken
lines-first [] h = absurd (omega arith)
lines-first (b ∷ t) h = go (eqb b 10) (cr_before b t) refl (longer-first b t (lines-first t))
  where
    go : (p q : Bool) → cr_before b t ≡ q → longer b (lines_of t) ≡ (b ∷ take (line_length t) t) ∷ lines_of (drop (line_taken t) t)
        → cond p ([] ∷ lines_of t) (cond q (lines_of t) (longer b (lines_of t)))
        ≡ take (cond (p || q) 0 (suc (line_length t))) (b ∷ t) ∷ lines_of (drop (cond p 1 (suc (line_taken t))) (b ∷ t))
    go true q e l = refl
    go false true e l = lines-lf t (cr-first b t e)
    go false false e l = l

-- ---- how many lines, and what they hold
pub lines-le : (t : List ℕ) → length (lines_of t) ≤ length t
unfolding lines_of longer
lines-le [] = omega arith
lines-le (b ∷ t) = go (eqb b 10) (cr_before b t) (lines_of t) (lines-le t)
  where
    go : (p q : Bool) (ls : List (List ℕ)) → length ls ≤ length t → length (cond p ([] ∷ ls) (cond q ls (longer b ls))) ≤ suc (length t)
    go true q ls h = omega arith
    go false true ls h = omega arith
    go false false [] h = omega arith
    go false false (l ∷ ls) h = omega arith

-- no line has an LF inside
abbrev Free : List (List ℕ) → Type 0
Free ls = (l : List ℕ) → Memᴰ l ls → Memᴰ 10 l → ⊥

longer-free : (b : ℕ) (ls : List (List ℕ)) → (b ≡ 10 → ⊥) → Free ls → Free (longer b ls)
unfolding longer
longer-free b [] n free l m i = n (sym (Memᴰ.eq_of_singleton (rw (Memᴰ.eq_of_singleton m) at i)))
longer-free b (x ∷ ls) n free l m i =
    ⊎_elim
    (λ e. ⊎_elim (λ z. n (sym z)) (λ k. free x (Memᴰ.head refl) k) (Memᴰ.cases_cons (rw e at i)))
    (λ k. free l (Memᴰ.tail k) i)
    (Memᴰ.cases_cons m)

pub lines-free : (t l : List ℕ) → Memᴰ l (lines_of t) → Memᴰ 10 l → ⊥
unfolding lines_of
lines-free [] l m i = Memᴰ.not-nil m
lines-free (b ∷ t) l m i = go (eqb b 10) (cr_before b t) refl (lines-free t) l m i
  where
    go : (p q : Bool) → eqb b 10 ≡ p → Free (lines_of t) → Free (cond p ([] ∷ lines_of t) (cond q (lines_of t) (longer b (lines_of t))))
    go true q e free l m i =
        ⊎_elim (λ z. Memᴰ.not-nil (rw z at i)) (λ k. free l k i) (Memᴰ.cases_cons m)
    go false true e free l m i = free l m i
    go false false e free l m i = longer-free b (lines_of t) (eqb-false b 10 e) free l m i

-- ---- a part
pub part-inside : (f : List ℕ) (start end : ℕ) → start ≤ end → end ≤ length f → part_of f start end ≡ take (end - start) (drop start f)
unfolding part_of
part-inside f start end a b = rw (le-leb start end a, le-leb end (length f) b) refl

pub part-outside : (f : List ℕ) (start end : ℕ) → (end < start) ⊎ (length f < end) → part_of f start end ≡ []
unfolding part_of
part-outside f start end (inl h) = simp (lt-leb _ _ h)
part-outside f start end (inr h) = rw (lt-leb end (length f) h) (no (leb start end))
  where
    no : (p : Bool) → cond (p && false) (take (end - start) (drop start f)) [] ≡ []
    no true = refl
    no false = refl

-- ---- a step
pub step_in : (f : List ℕ) (at : ℕ) → at < length f → step_at f at ≡ Some (line_of at (at + line_length (drop at f)) (at + line_taken (drop at f)))
unfolding step_at
step_in f at h = rw (lt-ltb at (length f) h) refl

step-out : (f : List ℕ) (at : ℕ) → length f ≤ at → step_at f at ≡ None
unfolding step_at
step-out f at h = rw (le-ltb at (length f) h) refl

inside : (f : List ℕ) (at : ℕ) (l : Line) → step_at f at ≡ Some l → at < length f
inside f at l e = go (ltb at (length f)) refl
  where
    go : (p : Bool) → ltb at (length f) ≡ p → at < length f
    go true h = ltb-true at (length f) h
    go false h =
        let o = step-out f at (ltb-false at (length f) h) in
        absurd (let z : ◌≡◌ {A = ℕ} 0 1 = cc in omega arith)

pub step_end : (f : List ℕ) (at : ℕ) → (step_at f at ≡ None) ↔ (length f ≤ at)
step_end f at = (λ e. go (ltb at (length f)) refl e, step-out f at)
  where
    go : (p : Bool) → ltb at (length f) ≡ p → step_at f at ≡ None → length f ≤ at
    go false h e = ltb-false at (length f) h
    go true h e =
        let o = step_in f at (ltb-true at (length f) h) in
        absurd (let z : ◌≡◌ {A = ℕ} 0 1 = cc in omega arith)

pub end-lines : (f : List ℕ) (at : ℕ) → length f ≤ at → lines_of (drop at f) ≡ []
unfolding lines_of
end-lines f at h = rw (drop_of_length-le f h) refl

-- what a step to a line tells
pub record Served (f : List ℕ) (at start end next : ℕ) : Type 0 where
  pub first : start ≡ at
  pub lines : lines_of (drop at f) ≡ take (end - start) (drop start f) ∷ lines_of (drop next f)
  pub part : part_of f start end ≡ take (end - start) (drop start f)
  pub whole : start ≤ end
  pub ends : end ≤ next
  pub moves : at < next
  pub within : next ≤ length f

served : (f : List ℕ) (at : ℕ) → at < length f → Served f at at (at + line_length (drop at f)) (at + line_taken (drop at f))
served f at h =
    let t = drop at f in
    let l : length t ≡ length f - at = length-drop at f in
    let some : 0 < length t = omega arith in
    let a = length_taken t in
    let b = taken-le t in
    let c = taken-some t some in
    let n : at + line_length t - at ≡ line_length t = add-sub_cancel_left at (line_length t) in
    record {
      first = refl;
      lines = rw (n, ← drop-drop (line_taken t) at f) (lines-first t some);
      part = part-inside f at (at + line_length t) (omega arith) (omega arith);
      whole = omega arith;
      ends = omega arith;
      moves = omega arith;
      within = omega arith;
    }

pub step-served : (f : List ℕ) (at : ℕ) (l : Line) → step_at f at ≡ Some l → Served f at l.start l.end l.next
step-served f at l e =
    let h = inside f at l e in
    let k = same_Some _ l (sym (step_in f at h) ∙ e) in
    rw (← k) (served f at h)

-- ---- step after step
walked_end : (n : ℕ) (f : List ℕ) (at : ℕ) → length f ≤ at → walked_for n f at ≡ lines_of (drop at f)
unfolding walked_for
walked_end ℕ.zero f at h = sym (end-lines f at h)
walked_end (suc n) f at h = rw (step-out f at h) (sym (end-lines f at h))

walked_on : (n : ℕ) (f : List ℕ) (at : ℕ) → at < length f → length f ≤ at + suc n
    → ((next : ℕ) → length f ≤ next + n → walked_for n f next ≡ lines_of (drop next f)) → walked_for (suc n) f at ≡ lines_of (drop at f)
unfolding walked_for
walked_on n f at i h ih =
    let s = served f at i in
    let rest = ih (at + line_taken (drop at f)) (omega arith) in
    rw (step_in f at i, rest, s.part) (sym s.lines)

-- the steps have come to the end: more of them give no more lines
pub walked_from : (n : ℕ) (f : List ℕ) (at : ℕ) → length f ≤ at + n → walked_for n f at ≡ lines_of (drop at f)
walked_from ℕ.zero f at h = walked_end 0 f at (omega arith)
walked_from (suc n) f at h = go (ltb at (length f)) refl (walked_from n f)
  where
    go : (p : Bool) → ltb at (length f) ≡ p → ((next : ℕ) → length f ≤ next + n → walked_for n f next ≡ lines_of (drop next f))
        → walked_for (suc n) f at ≡ lines_of (drop at f)
    go true e ih = walked_on n f at (ltb-true at (length f) e) h ih
    go false e ih = walked_end (suc n) f at (ltb-false at (length f) e)

pub walked_lines : (f : List ℕ) → walked f 0 ≡ lines_of f
unfolding walked
walked_lines f = walked_from (suc (length f)) f 0 (omega arith)
