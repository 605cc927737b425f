-- What is held stands for the piece that came.
--     ends_cr, ended-take                        the line of a piece that an LF ends is what stands before a CR
--     Holds                                     what is held stands for a piece p of the line n
--     holds-begun, holds-keep, holds-absorbed   at the line's begin, behind a byte, and behind all up to an LF
--     holds-none                                with no byte counted the piece is empty
-- Assumes nothing.
use Prim.Native.Nat.{ℕ, suc, ◌+◌, ◌-◌, ◌≤◌, min}
use mathlib.Core.Path.{◌≡◌, refl, sym, ap, ◌∙◌}
use mathlib.Core.Bool.{Bool, true, false, cond}
use mathlib.Core.List.{List, [], ◌∷◌, ◌++◌, append-nil}
use native.Mathlib.Omega.{arith}
use borrow.Author.Tests.{ltb-true, ltb-false}
use lib.ListN.{length, take, set, length-set, length-append}
use lib.Seq.{append_snoc, take-suc-set, take-append-le, take_all, take-length, take-set-le, set_out}
use lib.Dec.{eqb, ltb}
use Rattle.carry.specs.Held.{most_kept, most_count, State, begun, stored, keep, absorbed}
use Rattle.carry.specs.Pieces.{ended_line}
use Rattle.walker.specs.Lines.{before_lf}

-- whether a piece ends with a CR
abbrev pub ends_cr : List ℕ → Bool
ends_cr [] = false
ends_cr (b ∷ []) = eqb b 13
ends_cr (b ∷ c ∷ t) = ends_cr (c ∷ t)

cr_snoc : (p : List ℕ) (b : ℕ) → ends_cr (p ++ b ∷ []) ≡ eqb b 13
cr_snoc [] b = refl
cr_snoc (x ∷ []) b = refl
cr_snoc (x ∷ y ∷ p) b = cr_snoc (y ∷ p) b

-- a piece's line is what stands before the CR
pub ended-take : (p : List ℕ) → ended_line p ≡ take (cond (ends_cr p) (length p - 1) (length p)) p
unfolding ended_line
ended-take [] = refl
ended-take (b ∷ []) = go (eqb b 13)
  where
    go : (c : Bool) → cond c [] (b ∷ []) ≡ take (cond c 0 1) (b ∷ [])
    go true = refl
    go false = refl
ended-take (b ∷ c ∷ t) =
    let m : suc (length t) - 1 ≡ length t = omega arith in
    let n : suc (suc (length t)) - 1 ≡ suc (length t) = omega arith in
    rw (ended-take (c ∷ t), m, n) (go (ends_cr (c ∷ t)))
  where
    go : (x : Bool) → b ∷ take (cond x (length t) (suc (length t))) (c ∷ t) ≡ take (cond x (suc (length t)) (suc (suc (length t)))) (b ∷ c ∷ t)
    go true = refl
    go false = refl

-- ---- what is held stands for a piece
pub record Holds (p : List ℕ) (n : ℕ) (s : State) : Type 0 where
  pub count : s.held.total ≡ min (length p) most_count
  pub cr : s.held.cr ≡ ends_cr p
  pub number : s.held.number ≡ n
  pub space : length s.kept ≡ most_kept
  pub bytes : (k : ℕ) → k ≤ length p → k ≤ most_kept → take k s.kept ≡ take k p

pub holds-begun : (n : ℕ) (kept : List ℕ) → length kept ≡ most_kept → Holds [] n (begun n kept)
holds-begun n kept h =
    record { count = omega arith; cr = refl; number = refl; space = h; bytes = λ k a b. let z : k ≡ 0 = omega arith in rw z refl }

snoc_length : (p : List ℕ) (b : ℕ) → length (p ++ b ∷ []) ≡ length p + 1
snoc_length p b = length-append p (b ∷ [])

keep-bytes : (p kept : List ℕ) (b total : ℕ) → length kept ≡ most_kept → total ≡ min (length p) most_count
    → ((k : ℕ) → k ≤ length p → k ≤ most_kept → take k kept ≡ take k p)
    → (k : ℕ) → k ≤ length (p ++ b ∷ []) → k ≤ most_kept → take k (set kept total b) ≡ take k (p ++ b ∷ [])
keep-bytes p kept b total space count bytes k a h = go (ltb (length p) k) refl
  where
    go : (c : Bool) → ltb (length p) k ≡ c → take k (set kept total b) ≡ take k (p ++ b ∷ [])
    go false e =
        let l = ltb-false (length p) k e in
        take-set-le k kept total b (omega arith) ∙ bytes k l h ∙ sym (take-append-le k p (b ∷ []) l)
    go true e =
        let l = ltb-true (length p) k e in
        let m = snoc_length p b in
        let t : total ≡ length p = omega arith in
        let z : k ≡ suc (length p) = omega arith in
        rw (z, t, take-suc-set kept (length p) b (omega arith), bytes (length p) (omega arith) (omega arith), take-length p)
        (sym (take_all (suc (length p)) (p ++ b ∷ []) (omega arith)))

stored-set : (kept : List ℕ) (total b : ℕ) → length kept ≡ most_kept → stored kept total b ≡ set kept total b
stored-set kept total b h = go (ltb total most_kept) refl
  where
    go : (c : Bool) → ltb total most_kept ≡ c → cond c (set kept total b) kept ≡ set kept total b
    go true e = refl
    go false e = let l = ltb-false total most_kept e in sym (set_out kept total b (omega arith))

holds-keep : (p : List ℕ) (n : ℕ) (s : State) (b : ℕ) → Holds p n s → Holds (p ++ b ∷ []) n (keep s b)
unfolding keep
holds-keep p n s b h =
    let e = stored-set s.kept s.held.total b h.space in
    record {
      count = let l = snoc_length p b in let c = h.count in omega arith;
      cr = sym (cr_snoc p b);
      number = h.number;
      space = ap length e ∙ length-set s.kept s.held.total b ∙ h.space;
      bytes = λ k x y. rw e (keep-bytes p s.kept b s.held.total h.space h.count h.bytes k x y);
    }

pub holds-absorbed : (p : List ℕ) (n : ℕ) (s : State) (t : List ℕ) → Holds p n s → Holds (p ++ take (before_lf t) t) n (absorbed s t)
unfolding absorbed before_lf
holds-absorbed p n s [] h = rw (append-nil p) h
holds-absorbed p n s (b ∷ t) h = go (eqb b 10) (holds-absorbed (p ++ b ∷ []) n (keep s b) t (holds-keep p n s b h))
  where
    go : (c : Bool) → Holds ((p ++ b ∷ []) ++ take (before_lf t) t) n (absorbed (keep s b) t)
        → Holds (p ++ take (cond c 0 (suc (before_lf t))) (b ∷ t)) n (cond c s (absorbed (keep s b) t))
    go true g = rw (append-nil p) h
    go false g = rw (append_snoc p b (take (before_lf t) t)) at g

pub holds-none : (p : List ℕ) (n : ℕ) (s : State) → Holds p n s → s.held.total ≡ 0 → p ≡ []
holds-none [] n s h z = refl
holds-none (b ∷ p) n s h z = let c = h.count in absurd (omega arith)
