-- Bytes by their first LF.
--     before-all              without one they all stand before it
--     Split, first-split      with one: the line that it ends, and then what the rest finishes and leaves
-- Assumes nothing.
use Prim.Native.Nat.{ℕ, suc}
use mathlib.Core.Path.{◌≡◌, refl, ap, ◌∙◌}
use mathlib.Core.Bool.{Bool, true, false, cond}
use mathlib.Core.List.{List, [], ◌∷◌, ◌++◌, append-nil}
use native.Mathlib.Omega.{arith}
use borrow.Author.Tests.{ltb-true, ltb-false, lt-ltb}
use lib.ListN.{length, take}
use lib.Seq.{append_snoc, take_all}
use lib.Dec.{eqb, ltb}
use Rattle.carry.specs.Pieces.{ended_stretch, passed, left}
use Rattle.carry.specs.Whole.{ends, behind_lf}
use Rattle.walker.specs.Lines.{before_lf}

pub before-all : (t : List ℕ) → ends t ≡ false → take (before_lf t) t ≡ t
before-all t e = take_all (before_lf t) t (ltb-false (before_lf t) (length t) e)

pub record Split (p t : List ℕ) : Type 0 where
  pub lines : passed p t ≡ ended_stretch (p ++ take (before_lf t) t) ∷ passed [] (behind_lf t)
  pub rest : left p t ≡ left [] (behind_lf t)

pub first-split : (p t : List ℕ) → ends t ≡ true → Split p t
unfolding passed left before_lf
first-split p [] e = let l = ltb-true 0 0 e in absurd (omega arith)
first-split p (b ∷ t) e = go (eqb b 10) refl (first-split (p ++ b ∷ []) t) e
  where
    go : (c : Bool) → eqb b 10 ≡ c → (ends t ≡ true → Split (p ++ b ∷ []) t) → ltb (cond c 0 (suc (before_lf t))) (suc (length t)) ≡ true
        → Split p (b ∷ t)
    go true f ih e = record { lines = rw f (rw (append-nil p) refl); rest = rw f refl }
    go false f ih e =
        let l = ltb-true (suc (before_lf t)) (suc (length t)) e in
        let s = ih (lt-ltb (before_lf t) (length t) (omega arith)) in
        record {
          lines = rw f (s.lines ∙ ap (λ (q : List ℕ). ended_stretch q ∷ passed [] (behind_lf t)) (append_snoc p b (take (before_lf t) t)));
          rest = rw f s.rest;
        }
