-- Laws of a block of bytes in which an LF is looked for.
--     lf_hit, lf-miss     one byte further
--     lf-all              the end
--     block_free          a block without an LF is passed as a whole
--     full-free           80 bytes without an LF before one
-- Assumes nothing.
use Prim.Native.Nat.{ℕ, suc, ◌+◌, ◌-◌, ◌≤◌, ◌<◌}
use Rattle.std.proofs.Common.{length-append}
use Rattle.std.proofs.lemmas.Grind.{common_steps}
use mathlib.Core.Path.{◌≡◌, refl, sym, ap, ◌∙◌}
use mathlib.Core.Bool.{Bool, true, false, cond, not}
use mathlib.Core.List.{List, [], ◌∷◌, ◌++◌}
use native.Mathlib.Numerals.{add-one}
use native.Mathlib.Omega.{arith}
use borrow.Author.Tests.{eq-eqb, ne_eqb}
use lib.ListN.{length, take, drop, get_or, length-drop, drop_of_length-le, take-append-drop}
use lib.Seq.{drop-cons, drop-drop, length-take-le}
use lib.Dec.{eqb}
use Rattle.walker.specs.Lines.{has_lf, before_lf, Full}
use Rattle.walker.proofs.Laws.Pieces.{lf_here}

-- ---- the loop over a block
module _ (t : List ℕ) (i : ℕ) (h : i < length t) (found : Bool) (v : has_lf found (drop i t) ≡ has_lf false t) where
  further : has_lf found (drop i t) ≡ has_lf (cond (eqb (get_or t i 0) 10) true found) (drop (i + 1) t)
  unfolding has_lf
  further = rw (drop-cons t i 0, add-one i) refl

  turn : has_lf (cond (eqb (get_or t i 0) 10) true found) (drop (i + 1) t) ≡ has_lf false t
  turn = sym further ∙ v

  pub lf_hit : (now : Bool) → get_or t i 0 ≡ 10 → now ≡ true → has_lf now (drop (i + 1) t) ≡ has_lf false t
  lf_hit now b e = rw e (rw (eq-eqb (get_or t i 0) 10 b) at turn)

  pub lf-miss : (now : Bool) → (get_or t i 0 ≡ 10 → ⊥) → now ≡ found → has_lf now (drop (i + 1) t) ≡ has_lf false t
  lf-miss now b e = rw e (rw (ne_eqb (get_or t i 0) 10 b) at turn)

pub lf-all : (t : List ℕ) (i : ℕ) (found : Bool) → length t ≤ i → has_lf found (drop i t) ≡ has_lf false t → found ≡ has_lf false t
unfolding has_lf
lf-all t i found h v = rw (drop_of_length-le t h) at v

-- ---- a block without an LF
found_stays : (t : List ℕ) → has_lf true t ≡ true
unfolding has_lf
found_stays [] = refl
found_stays (b ∷ t) = go (eqb b 10) (found_stays t)
  where
    go : (p : Bool) → has_lf true t ≡ true → has_lf (cond p true true) t ≡ true
    go true e = e
    go false e = e

free : (t rest : List ℕ) → has_lf false t ≡ false → before_lf (t ++ rest) ≡ length t + before_lf rest
unfolding has_lf before_lf
free [] rest e = omega arith
free (b ∷ t) rest e = go (eqb b 10) (free t rest) e
  where
    go : (p : Bool) → (has_lf false t ≡ false → before_lf (t ++ rest) ≡ length t + before_lf rest)
        → has_lf (cond p true false) t ≡ false
        → cond p 0 (suc (before_lf (t ++ rest))) ≡ suc (length t) + before_lf rest
    go true ih e = let s = found_stays t in cc
    go false ih e = let h = ih e in omega arith

-- a block x behind n bytes of a text, with y behind it
pub block_free : (t x y : List ℕ) (n : ℕ) → x ++ y ≡ drop n t → n ≤ length t → has_lf false x ≡ false
    → (y ≡ drop (n + length x) t) × (n + length x ≤ length t) × (n + length x + before_lf (drop (n + length x) t) ≡ n + before_lf (drop n t))
block_free t x y n e h f =
    let d : drop (length x) (x ++ y) ≡ y = grind (arith, common_steps) in
    let rest : y ≡ drop (n + length x) t = sym d ∙ ap (drop (length x)) e ∙ drop-drop (length x) n t in
    let l : length x + length y ≡ length t - n = sym (length-append x y) ∙ ap length e ∙ length-drop n t in
    let p : before_lf (drop n t) ≡ length x + before_lf y = rw (← e) (free x y f) in
    (rest, omega arith, rw (← rest) (omega arith))

-- 64 bytes at the front and 16 behind them, and then an LF
pub full-free : (t : List ℕ) → 80 < length t → has_lf false (take 64 t) ≡ false → (b : Bool) → b ≡ has_lf false (take 16 (drop 64 t))
    → get_or t 80 0 ≡ 10 → Full t (not b)
full-free t h a true e lf = tt
full-free t h a false e lf =
    let p = free (take 64 t) (drop 64 t) a in
    let q = free (take 16 (drop 64 t)) (drop 16 (drop 64 t)) (sym e) in
    let l : length (take 64 t) ≡ 64 = length-take-le 64 t (omega arith) in
    let m : length (take 16 (drop 64 t)) ≡ 16 = length-take-le 16 (drop 64 t) (omega (arith, length-drop 64 t)) in
    let x : before_lf t ≡ 64 + before_lf (drop 64 t) = rw (take-append-drop 64 t, l) at p in
    let y : before_lf (drop 64 t) ≡ 16 + before_lf (drop 80 t) = rw (take-append-drop 16 (drop 64 t), m, drop-drop 16 64 t) at q in
    (h, omega (arith, lf_here t 80 h lf))
