-- The bytes up to the last LF.
--     whole_le                           they are some of all
--     whole-ends, ends_some, ends-none, whole-zero     there are some exactly where there is an LF
--     whole_here, whole-other, whole-none, whole-end   one byte back, and the ends, for the loop that looks for the last LF
--     whole_drop, whole-rest             behind some of them stand the others, and behind all of them no LF
--     Parted, parted                     what bytes finish and leave behind a piece, by the last LF among them
--     passed-free, left-free             and with no piece before them
--     passed_none, left-all              and without an LF
--     finished-free, finished-none       the same of the lines alone
-- Assumes nothing.
use Prim.Native.Nat.{ℕ, suc, ◌+◌, ◌-◌, ◌≤◌, ◌<◌}
use mathlib.Core.Path.{◌≡◌, refl, sym, ap, ◌∙◌}
use mathlib.Core.Bool.{Bool, true, false, cond}
use mathlib.Core.List.{List, [], ◌∷◌, ◌++◌, append-nil}
use native.Mathlib.Omega.{arith}
use borrow.Author.Tests.{lt-ltb, le-ltb, ltb-true, ltb-false, eq-eqb, ne_eqb}
use lib.ListN.{length, take, drop, get_or, drop_of_length-le}
use lib.Seq.{append_snoc, drop-drop, drop-cons}
use lib.Dec.{eqb, ltb}
use Rattle.carry.specs.Pieces.{Stretch, stretches_of, ended_stretch, texts, passed, finished, left}
use Rattle.carry.specs.Whole.{ends, whole_length, whole_of, lines_in}
use Rattle.carry.proofs.Laws.Pieces.{stretches-fed, texts-of}
use Rattle.walker.specs.Lines.{before_lf}

pub whole_le : (t : List ℕ) → whole_length t ≤ length t
unfolding whole_length
whole_le [] = omega arith
whole_le (b ∷ t) = go (ltb 0 (whole_length t)) (eqb b 10) (whole_le t)
  where
    go : (c d : Bool) → whole_length t ≤ length t → cond c (suc (whole_length t)) (cond d 1 0) ≤ suc (length t)
    go true d h = omega arith
    go false true h = omega arith
    go false false h = omega arith

-- ---- whether there is an LF
pub whole-ends : (t : List ℕ) → ltb 0 (whole_length t) ≡ ends t
unfolding whole_length before_lf
whole-ends [] = refl
whole-ends (b ∷ t) = go (eqb b 10) (ltb 0 (whole_length t)) (whole_length t) (before_lf t) (length t) refl (whole-ends t)
  where
    go : (p c : Bool) (w n m : ℕ) → ltb 0 w ≡ c → c ≡ ltb n m
        → ltb 0 (cond c (suc w) (cond p 1 0)) ≡ ltb (cond p 0 (suc n)) (suc m)
    go true true w n m e f = lt-ltb 0 (suc w) (omega arith) ∙ sym (lt-ltb 0 (suc m) (omega arith))
    go true false w n m e f = lt-ltb 0 1 (omega arith) ∙ sym (lt-ltb 0 (suc m) (omega arith))
    go false true w n m e f =
        let l = ltb-true n m (sym f) in
        lt-ltb 0 (suc w) (omega arith) ∙ sym (lt-ltb (suc n) (suc m) (omega arith))
    go false false w n m e f =
        let l = ltb-false n m (sym f) in
        le-ltb 0 0 (omega arith) ∙ sym (le-ltb (suc n) (suc m) (omega arith))

module _ (t : List ℕ) where
  pub ends_some : 0 < whole_length t → ends t ≡ true
  ends_some h = sym (whole-ends t) ∙ lt-ltb 0 (whole_length t) h

  pub ends-none : whole_length t ≤ 0 → ends t ≡ false
  ends-none h = sym (whole-ends t) ∙ le-ltb 0 (whole_length t) h

  pub whole-zero : ends t ≡ false → whole_length t ≡ 0
  whole-zero e = let h = ltb-false 0 (whole_length t) (whole-ends t ∙ e) in omega arith

-- ---- one byte back
-- an LF further on is the last one of all
whole_up : (k : ℕ) (t : List ℕ) → 0 < whole_length (drop k t) → whole_length t ≡ k + whole_length (drop k t)
unfolding whole_length
whole_up ℕ.zero t h = omega arith
whole_up (suc k) [] h = absurd (omega arith)
whole_up (suc k) (b ∷ t) h =
    let e = whole_up k t h in
    rw (lt-ltb 0 (whole_length t) (omega arith)) (omega arith)

whole_later : (f : List ℕ) (at i : ℕ) → at ≤ i → 0 < whole_length (drop i f) → whole_length (drop at f) ≡ i - at + whole_length (drop i f)
whole_later f at i l h =
    let s : at + (i - at) ≡ i = omega arith in
    let d : drop (i - at) (drop at f) ≡ drop i f = drop-drop (i - at) at f ∙ ap (λ (k : ℕ). drop k f) s in
    rw d at (whole_up (i - at) (drop at f) (rw d h))

module _ (f : List ℕ) (at i : ℕ) (v : whole_length (drop i f) ≡ 0) where
  pub whole-none : i ≤ at → at ≡ at + whole_length (drop at f)
  whole-none l = go (ltb 0 (whole_length (drop at f))) refl
    where
      go : (c : Bool) → ltb 0 (whole_length (drop at f)) ≡ c → at ≡ at + whole_length (drop at f)
      go true e =
          let h = ltb-true 0 (whole_length (drop at f)) e in
          let u = whole_later f i at l h in
          absurd (omega arith)
      go false e = let h = ltb-false 0 (whole_length (drop at f)) e in omega arith

  module _ (l : at < i) (w : i ≤ length f) where
    back : drop (i - 1) f ≡ get_or f (i - 1) 0 ∷ drop i f
    back =
        let s : suc (i - 1) ≡ i = omega arith in
        drop-cons f (i - 1) 0 (omega arith) ∙ ap (λ (k : ℕ). get_or f (i - 1) 0 ∷ drop k f) s

    pub whole_here : get_or f (i - 1) 0 ≡ 10 → i ≡ at + whole_length (drop at f)
    unfolding whole_length
    whole_here e =
        let one : whole_length (drop (i - 1) f) ≡ 1 = rw (back, v, eq-eqb (get_or f (i - 1) 0) 10 e) refl in
        let u = whole_later f at (i - 1) (omega arith) (omega arith) in
        omega arith

    pub whole-other : (get_or f (i - 1) 0 ≡ 10 → ⊥) → whole_length (drop (i - 1) f) ≡ 0
    unfolding whole_length
    whole-other n = rw (back, v, ne_eqb (get_or f (i - 1) 0) 10 n) refl

pub whole-end : (f : List ℕ) → whole_length (drop (length f) f) ≡ 0
unfolding whole_length
whole-end f = rw (drop_of_length-le f {i = length f} (omega arith)) refl

-- ---- behind some of them
pub whole_drop : (k : ℕ) (t : List ℕ) → k ≤ whole_length t → whole_length (drop k t) ≡ whole_length t - k
unfolding whole_length
whole_drop ℕ.zero t h = omega arith
whole_drop (suc k) [] h = absurd (omega arith)
whole_drop (suc k) (b ∷ t) h = go (ltb 0 (whole_length t)) refl (eqb b 10) h (whole_drop k t)
  where
    go : (c : Bool) → ltb 0 (whole_length t) ≡ c → (d : Bool) → suc k ≤ cond c (suc (whole_length t)) (cond d 1 0)
        → (k ≤ whole_length t → whole_length (drop k t) ≡ whole_length t - k)
        → whole_length (drop k t) ≡ cond c (suc (whole_length t)) (cond d 1 0) - suc k
    go true e d l ih = let h = ih (omega arith) in omega arith
    go false e true l ih =
        let z = ltb-false 0 (whole_length t) e in
        let h = ih (omega arith) in
        omega arith
    go false e false l ih = absurd (omega arith)

-- behind them all there is no LF
pub whole-rest : (t : List ℕ) → ends (drop (whole_length t) t) ≡ false
whole-rest t = let none = whole_drop (whole_length t) t (omega arith) in ends-none (drop (whole_length t) t) (omega arith)

-- ---- what bytes finish and leave
pub record Parted (p t : List ℕ) (w : ℕ) : Type 0 where
  pub lines : passed p t ≡ passed p (take w t)
  pub rest : left p t ≡ cond (ltb 0 w) (drop w t) (p ++ t)
  pub none : left p (take w t) ≡ cond (ltb 0 w) [] p

pub parted : (p t : List ℕ) → Parted p t (whole_length t)
unfolding whole_length passed left
parted p [] = record { lines = refl; rest = sym (append-nil p); none = refl }
parted p (b ∷ t) = go (eqb b 10) refl (ltb 0 (whole_length t)) refl (parted [] t) (parted (p ++ b ∷ []) t)
  where
    go : (d : Bool) → eqb b 10 ≡ d → (c : Bool) → ltb 0 (whole_length t) ≡ c → Parted [] t (whole_length t) → Parted (p ++ b ∷ []) t (whole_length t)
        → Parted p (b ∷ t) (cond (ltb 0 (whole_length t)) (suc (whole_length t)) (cond (eqb b 10) 1 0))
    go true e true f x y =
        let one = lt-ltb 0 (suc (whole_length t)) (omega arith) in
        record {
          lines = rw f (rw e (ap (λ (ss : List Stretch). ended_stretch p ∷ ss) x.lines));
          rest = rw f (rw (e, one) (rw f at x.rest));
          none = rw f (rw (e, one) (rw f at x.none));
        }
    go false e true f x y =
        let one = lt-ltb 0 (suc (whole_length t)) (omega arith) in
        record {
          lines = rw f (rw e y.lines);
          rest = rw f (rw (e, one) (rw f at y.rest));
          none = rw f (rw (e, one) (rw f at y.none));
        }
    go true e false f x y =
        let l = ltb-false 0 (whole_length t) f in
        let z : whole_length t ≡ 0 = omega arith in
        let no : passed [] t ≡ [] = rw z at x.lines in
        record {
          lines = rw (f, e) (rw (e, no) refl);
          rest = rw (f, e) (rw f at x.rest);
          none = rw (f, e) (rw e refl);
        }
    go false e false f x y =
        let l = ltb-false 0 (whole_length t) f in
        let z : whole_length t ≡ 0 = omega arith in
        let no : passed (p ++ b ∷ []) t ≡ [] = rw z at y.lines in
        record {
          lines = rw (f, e) no;
          rest = rw (f, e) ((rw f at y.rest) ∙ append_snoc p b t);
          none = rw (f, e) refl;
        }

-- with no piece before them
nothing : (t : List ℕ) → left [] (whole_of t) ≡ []
nothing t = (parted [] t).none ∙ go (ltb 0 (whole_length t))
  where
    go : (c : Bool) → ◌≡◌ {A = List ℕ} (cond c [] []) []
    go true = refl
    go false = refl

pub passed-free : (t : List ℕ) → passed [] t ≡ stretches_of (whole_of t)
passed-free t =
    let all = stretches-fed [] (whole_of t) tt in
    (parted [] t).lines ∙ sym (rw (nothing t, append-nil (passed [] (whole_of t))) at all)

pub finished-free : (t : List ℕ) → finished [] t ≡ lines_in t
finished-free t = ap texts (passed-free t) ∙ texts-of (whole_of t)

pub left-free : (t : List ℕ) → left [] t ≡ drop (whole_length t) t
left-free t = (parted [] t).rest ∙ go (ltb 0 (whole_length t)) refl
  where
    go : (c : Bool) → ltb 0 (whole_length t) ≡ c → cond c (drop (whole_length t) t) t ≡ drop (whole_length t) t
    go true e = refl
    go false e =
        let l = ltb-false 0 (whole_length t) e in
        let z : whole_length t ≡ 0 = omega arith in
        rw z refl

-- without an LF nothing is finished, and all is left
module _ (p t : List ℕ) (e : ends t ≡ false) where
  pub passed_none : passed p t ≡ []
  unfolding passed
  passed_none = rw (whole-zero t e) at (parted p t).lines

  pub finished-none : finished p t ≡ []
  finished-none = ap texts passed_none

  pub left-all : left p t ≡ p ++ t
  left-all = rw (whole-zero t e) at (parted p t).rest
