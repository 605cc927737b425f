-- Laws of a piece: the bytes up to an LF, or up to the end of the file.
--     length_taken, taken-le, taken-some     a line is within what it takes up, which is some of the text
--     lf_here, lf-other, lf-none             one byte further, and the end, for a loop that looks for the LF
--     before-le, before-position             how many bytes stand before the LF, and that this is its position
--     position-some, position-none           what the search for the LF finds
--     end_none, end-cr, end-other            where a line ends, by the byte just before its LF: none, a CR, or another
--     rest-all                               what follows an offset is all that follows it
--     step-lf, step-last                     the step to a line that an LF ends, and to a last piece without one
-- Assumes nothing.
use Prim.Native.Nat.{ℕ, suc, ◌+◌, ◌-◌, ◌≤◌, ◌<◌}
use mathlib.Core.Path.{◌≡◌, refl, sym, ap, ◌∙◌}
use mathlib.Core.Bool.{Bool, true, false, cond, ◌&&◌, ◌||◌}
use mathlib.Core.List.{List, [], ◌∷◌}
use Rattle.std.proofs.Common.{Some, None}
use Rattle.std.specs.List.{position, position_or_len}
use Rattle.std.proofs.lemmas.List.Quantifiers.{position-Some}
use Rattle.std.proofs.lemmas.Option.{same_Some, none-some}
use Rattle.std.proofs.lemmas.List.Recursion.{is_position_or_len}
use native.Mathlib.Numerals.{add-one}
use native.Mathlib.Omega.{arith}
use borrow.Author.Tests.{ltb-false, lt-ltb, eq-eqb, ne_eqb}
use lib.ListN.{length, take, drop, get_or, length-drop, drop_of_length-le}
use lib.Seq.{take_all, drop-cons}
use lib.Dec.{ltb, eqb}
use Rattle.walker.specs.Lines.{lf_first, cr_before, line_length, line_taken, line_of, step_at, before_lf}

-- ---- what the first line takes up
pub length_taken : (t : List ℕ) → line_length t ≤ line_taken t
unfolding line_length line_taken
length_taken [] = omega arith
length_taken (b ∷ t) = go (eqb b 10) (cr_before b t) (length_taken t)
  where
    go : (p q : Bool) → line_length t ≤ line_taken t → cond (p || q) 0 (suc (line_length t)) ≤ cond p 1 (suc (line_taken t))
    go true q h = omega arith
    go false true h = omega arith
    go false false h = omega arith

pub taken-le : (t : List ℕ) → line_taken t ≤ length t
unfolding line_taken
taken-le [] = omega arith
taken-le (b ∷ t) = go (eqb b 10) (taken-le t)
  where
    go : (p : Bool) → line_taken t ≤ length t → cond p 1 (suc (line_taken t)) ≤ suc (length t)
    go true h = omega arith
    go false h = omega arith

pub taken-some : (t : List ℕ) → 0 < length t → 0 < line_taken t
unfolding line_taken
taken-some [] h = h
taken-some (b ∷ t) h = go (eqb b 10)
  where
    go : (p : Bool) → 0 < cond p 1 (suc (line_taken t))
    go true = omega arith
    go false = omega arith

-- ---- one byte further
module _ (f : List ℕ) (i : ℕ) (h : i < length f) where
  pub lf_here : get_or f i 0 ≡ 10 → before_lf (drop i f) ≡ 0
  unfolding before_lf
  lf_here e = rw (drop-cons f i 0) (rw (eq-eqb (get_or f i 0) 10 e) refl)

  pub lf-other : (get_or f i 0 ≡ 10 → ⊥) → before_lf (drop i f) ≡ suc (before_lf (drop (i + 1) f))
  unfolding before_lf
  lf-other n = rw (drop-cons f i 0, add-one i) (rw (ne_eqb (get_or f i 0) 10 n) refl)

pub lf-none : (f : List ℕ) (i : ℕ) → length f ≤ i → before_lf (drop i f) ≡ 0
unfolding before_lf
lf-none f i h = rw (drop_of_length-le f h) refl

pub before-le : (t : List ℕ) → before_lf t ≤ length t
unfolding before_lf
before-le [] = omega arith
before-le (b ∷ t) = go (eqb b 10) (before-le t)
  where
    go : (p : Bool) → before_lf t ≤ length t → cond p 0 (suc (before_lf t)) ≤ suc (length t)
    go true h = omega arith
    go false h = omega arith

pub before-position : (t : List ℕ) → before_lf t ≡ position_or_len (λ b. eqb b 10) t
unfolding before_lf
before-position t = is_position_or_len before_lf (λ b. eqb b 10) refl (λ b t. go (eqb b 10) (before_lf t)) t
  where
    go : (p : Bool) (n : ℕ) → cond p 0 (suc n) ≡ cond p 0 (1 + n)
    go true n = refl
    go false n = omega arith

pub position-some : (t : List ℕ) (n : ℕ) → Some n ≡ position (λ b. eqb b 10) t → (n < length t) × (n ≡ before_lf t)
position-some t n e =
    let p = position-Some (λ b. eqb b 10) t n 0 (sym e) in
    (p.0, rw (before-position t) (go (ltb (position_or_len (λ b. eqb b 10) t) (length t)) e))
  where
    go : (b : Bool) → Some n ≡ cond b (Some (position_or_len (λ b. eqb b 10) t)) None → n ≡ position_or_len (λ b. eqb b 10) t
    go true e = same_Some _ _ e
    go false e = absurd (none-some n (sym e))

pub position-none : (t : List ℕ) → None ≡ position (λ b. eqb b 10) t → before_lf t ≡ length t
position-none t e = go (ltb (before_lf t) (length t)) refl (rw (← before-position t) at e)
  where
    go : (b : Bool) → ltb (before_lf t) (length t) ≡ b → None ≡ cond b (Some (before_lf t)) None → before_lf t ≡ length t
    go true h e = absurd (none-some _ e)
    go false h e = omega (arith, ltb-false (before_lf t) (length t) h, before-le t)

-- ---- without an LF
taken-all : (t : List ℕ) → length t ≤ before_lf t → line_taken t ≡ before_lf t
unfolding before_lf line_taken
taken-all [] h = refl
taken-all (b ∷ t) h = go (eqb b 10) (taken-all t) h
  where
    go : (p : Bool) → (length t ≤ before_lf t → line_taken t ≡ before_lf t) → suc (length t) ≤ cond p 0 (suc (before_lf t))
        → cond p 1 (suc (line_taken t)) ≡ cond p 0 (suc (before_lf t))
    go true ih h = absurd (omega arith)
    go false ih h = ap suc (ih (omega arith))

-- no piece without an LF begins with one
none_first : (t : List ℕ) → length t ≤ before_lf t → lf_first t ≡ false
unfolding before_lf lf_first
none_first [] h = refl
none_first (b ∷ t) h = go (eqb b 10) h
  where
    go : (p : Bool) → suc (length t) ≤ cond p 0 (suc (before_lf t)) → p ≡ false
    go true h = absurd (omega arith)
    go false h = refl

no-cr : (x : Bool) (m n : ℕ) → cond (x && false) m n ≡ n
no-cr true m n = refl
no-cr false m n = refl

length-all : (t : List ℕ) → length t ≤ before_lf t → line_length t ≡ before_lf t
unfolding before_lf line_length
length-all [] h = refl
length-all (b ∷ t) h = go (eqb b 10) (length-all t) h
  where
    go : (p : Bool) → (length t ≤ before_lf t → line_length t ≡ before_lf t) → suc (length t) ≤ cond p 0 (suc (before_lf t))
        → cond (p || cr_before b t) 0 (suc (line_length t)) ≡ cond p 0 (suc (before_lf t))
    go true ih h = refl
    go false ih h =
        let l : length t ≤ before_lf t = omega arith in
        rw (none_first t l, ih l) (no-cr (eqb b 13) 0 (suc (before_lf t)))

-- ---- with an LF
taken-lf : (t : List ℕ) → before_lf t < length t → line_taken t ≡ suc (before_lf t)
unfolding before_lf line_taken
taken-lf [] h = absurd (omega arith)
taken-lf (b ∷ t) h = go (eqb b 10) (taken-lf t) h
  where
    go : (p : Bool) → (before_lf t < length t → line_taken t ≡ suc (before_lf t)) → cond p 0 (suc (before_lf t)) < suc (length t)
        → cond p 1 (suc (line_taken t)) ≡ suc (cond p 0 (suc (before_lf t)))
    go true ih h = refl
    go false ih h = ap suc (ih (omega arith))

-- whether the LF stands first
lf-first : (t : List ℕ) → before_lf t < length t → before_lf t ≡ 0 → lf_first t ≡ true
unfolding before_lf lf_first
lf-first [] h e = absurd (omega arith)
lf-first (b ∷ t) h e = go (eqb b 10) e
  where
    go : (p : Bool) → cond p 0 (suc (before_lf t)) ≡ 0 → p ≡ true
    go true e = refl
    go false e = absurd (omega arith)

lf_later : (t : List ℕ) (n : ℕ) → before_lf t ≡ suc n → lf_first t ≡ false
unfolding before_lf lf_first
lf_later [] n e = refl
lf_later (b ∷ t) n e = go (eqb b 10) e
  where
    go : (p : Bool) → cond p 0 (suc (before_lf t)) ≡ suc n → p ≡ false
    go true e = absurd (omega arith)
    go false e = refl

-- how many of the n bytes in front of an LF are the line's
abbrev kept : List ℕ → ℕ → ℕ
kept t ℕ.zero = 0
kept t (suc n) = cond (eqb (get_or t n 0) 13) n (suc n)

kept_cons : (b : ℕ) (t : List ℕ) (n : ℕ) → before_lf t ≡ n → n < length t → line_length t ≡ kept t n
    → cond (cr_before b t) 0 (suc (line_length t)) ≡ kept (b ∷ t) (suc n)
kept_cons b t ℕ.zero e h l = rw (lf-first t (rw e h) e, l) (go (eqb b 13) 0 1)
  where
    go : (x : Bool) (m n : ℕ) → cond (x && true) m n ≡ cond x m n
    go true m n = refl
    go false m n = refl
kept_cons b t (suc n) e h l = rw (lf_later t n e, l) (go (eqb b 13) (eqb (get_or t n 0) 13))
  where
    go : (x y : Bool) → cond (x && false) 0 (suc (cond y n (suc n))) ≡ cond y (suc n) (suc (suc n))
    go true true = refl
    go true false = refl
    go false true = refl
    go false false = refl

length-kept : (t : List ℕ) → before_lf t < length t → line_length t ≡ kept t (before_lf t)
unfolding before_lf line_length
length-kept [] h = absurd (omega arith)
length-kept (b ∷ t) h = go (eqb b 10) (length-kept t) h
  where
    go : (p : Bool) → (before_lf t < length t → line_length t ≡ kept t (before_lf t)) → cond p 0 (suc (before_lf t)) < suc (length t)
        → cond (p || cr_before b t) 0 (suc (line_length t)) ≡ kept (b ∷ t) (cond p 0 (suc (before_lf t)))
    go true ih h = refl
    go false ih h =
        let l : before_lf t < length t = omega arith in
        kept_cons b t (before_lf t) refl l (ih l)

-- ---- the line at the front, by its LF
module _ (t : List ℕ) (lf : ℕ) (e : lf ≡ before_lf t) (h : lf < length t) where
  by-lf : line_length t ≡ kept t lf
  by-lf = rw e (length-kept t (rw e at h))

  pub end_none : lf ≡ 0 → lf ≡ line_length t
  end_none z = rw (by-lf, z) refl

  -- by the byte just before the LF
  before : (lf ≡ 0 → ⊥) → line_length t ≡ cond (eqb (get_or t (lf - 1) 0) 13) (lf - 1) lf
  before z = let s : lf ≡ suc (lf - 1) = omega arith in by-lf ∙ ap (kept t) s ∙ rw (← s) refl

  pub end-cr : (lf ≡ 0 → ⊥) → get_or t (lf - 1) 0 ≡ 13 → lf - 1 ≡ line_length t
  end-cr z b = rw (before z, eq-eqb (get_or t (lf - 1) 0) 13 b) refl

  pub end-other : (lf ≡ 0 → ⊥) → (get_or t (lf - 1) 0 ≡ 13 → ⊥) → lf ≡ line_length t
  end-other z b = rw (before z, ne_eqb (get_or t (lf - 1) 0) 13 b) refl

-- ---- in a file, from an offset on
pub rest-all : (f : List ℕ) (at : ℕ) → take (length f - at) (drop at f) ≡ drop at f
rest-all f at = take_all (length f - at) (drop at f) (omega (arith, length-drop at f))

module _ (f : List ℕ) (at lf : ℕ) (i : at < length f) (e : lf ≡ before_lf (drop at f)) where
  pub step-lf : (n : ℕ) → lf < length (drop at f) → n ≡ line_length (drop at f) → Some (line_of at (at + n) (at + lf + 1)) ≡ step_at f at
  unfolding step_at
  step-lf n h l =
      let p : at + lf + 1 ≡ at + line_taken (drop at f) = omega (arith, taken-lf (drop at f) (rw e at h)) in
      rw (lt-ltb at (length f) i, l, p) refl

  pub step-last : length (drop at f) ≤ lf → Some (line_of at (length f) (length f)) ≡ step_at f at
  unfolding step_at
  step-last h =
      let all : length (drop at f) ≤ before_lf (drop at f) = rw e at h in
      let p : at + line_length (drop at f) ≡ length f = omega (arith, length-drop at f, length-all (drop at f) all, before-le (drop at f)) in
      let q : at + line_taken (drop at f) ≡ length f = omega (arith, length-drop at f, taken-all (drop at f) all, before-le (drop at f)) in
      rw (lt-ltb at (length f) i, p, q) refl
