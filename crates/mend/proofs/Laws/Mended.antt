-- Laws of the mended line.
--     padding-full, padding-none    a line is padded to 80 or not at all
--     mended-length
--     mended-front, mended-behind   what it holds, byte for byte
--     mended-twice                  mending twice changes nothing more
--     padded_when                   a line is padded exactly when it is a short ATOM or HETATM of which no field is cut
--     pad_cut, pad_atom, pad_other, pad_within    the padding in the code's own steps
-- Assumes nothing.
use Prim.Native.Nat.{ℕ, zero, suc, ◌+◌, ◌-◌, ◌<◌, ◌≤◌}
use mathlib.Core.Path.{◌≡◌, refl, ap, ◌∙◌}
use mathlib.Core.Bool.{Bool, true, false, cond, not, ◌&&◌}
use mathlib.Core.List.{List, ◌++◌, append-nil}
use native.Mathlib.Omega.{arith}
use borrow.Author.Tests.{ltb-true, ltb-false, lt-ltb, le-ltb, eqb-true, eqb-false}
use lib.ListN.{length, get_or, replicate, length-append, length-replicate, get_or-replicate, get_or-append}
use lib.Seq.{get_or-append-add}
use lib.Dec.{ltb, eqb}
use Rattle.number.proofs.Laws.Choice.{clash}
use Rattle.atom.specs.Atom.{atom_table}
use Rattle.line.specs.declared.options.Mode.TheVariants.{Crate}
use Rattle.mend.specs.Mend.{mended_byte, questioned, is_atom_line, cut_in, padding, mended}
use Rattle.mend.proofs.Laws.Bytes.{questioned-length, questioned-at, questioned-low, questioned-same, questioned-append, kind-questioned}

-- ---- how much is put
pub padding-full : (l : List ℕ) → 0 < padding l → length l + padding l ≡ 80
unfolding padding
padding-full l h = go (is_atom_line l && not (cut_in atom_table (length l))) h
  where
    go : (x : Bool) → 0 < cond x (80 - length l) 0 → length l + cond x (80 - length l) 0 ≡ 80
    go true p = omega arith
    go false p = absurd (omega arith)

pub padding-none : (l : List ℕ) → 80 ≤ length l → padding l ≡ 0
unfolding padding
padding-none l h = go (is_atom_line l && not (cut_in atom_table (length l)))
  where
    go : (x : Bool) → cond x (80 - length l) 0 ≡ 0
    go true = omega arith
    go false = refl

pub padding-questioned : (l : List ℕ) → padding (questioned l) ≡ padding l
unfolding padding
padding-questioned l = rw (kind-questioned false Crate l, questioned-length l) refl

-- exactly when
pub padded_when : (l : List ℕ) → ltb 0 (padding l) ≡ is_atom_line l && not (cut_in atom_table (length l)) && ltb (length l) 80
unfolding padding
padded_when l = go (is_atom_line l) (not (cut_in atom_table (length l))) (ltb (length l) 80) refl
  where
    go : (x y z : Bool) → ltb (length l) 80 ≡ z → ltb 0 (cond (x && y) (80 - length l) 0) ≡ x && y && z
    go false y z e = refl
    go true false z e = refl
    go true true true e = let h = ltb-true (length l) 80 e in lt-ltb 0 (80 - length l) (omega arith)
    go true true false e = let h = ltb-false (length l) 80 e in le-ltb 0 (80 - length l) (omega arith)

-- ---- the line
pub mended-length : (l : List ℕ) → length (mended l) ≡ length l + padding l
unfolding mended
mended-length l = simp (length-append, length-replicate, questioned-length) refl

module _ (l : List ℕ) (i : ℕ) where
  pub mended-front : i < length l → get_or (mended l) i 0 ≡ mended_byte (get_or l i 0)
  unfolding mended
  mended-front h =
      let k : i < length (questioned l) = rw (questioned-length l) h in
      get_or-append (questioned l) (replicate (padding l) 32) 0 i k ∙ questioned-at l i

  pub mended-behind : length l ≤ i → i < length l + padding l → get_or (mended l) i 0 ≡ 32
  unfolding mended
  mended-behind h k =
      let n = questioned-length l in
      let e : i ≡ length (questioned l) + (i - length l) = omega arith in
      ap (λ (x : ℕ). get_or (questioned l ++ replicate (padding l) 32) x 0) e
      ∙ get_or-append-add (questioned l) (replicate (padding l) 32) (i - length l) 0
      ∙ get_or-replicate (padding l) (i - length l) 32 0 (omega arith)

-- ---- twice
pub unpadded : (l : List ℕ) → padding l ≡ 0 → mended l ≡ questioned l
unfolding mended
unpadded l e = rw e (append-nil (questioned l))

pub padding-again : (l : List ℕ) → padding (mended l) ≡ 0
padding-again l = go (eqb (padding l) 0) refl
  where
    go : (x : Bool) → eqb (padding l) 0 ≡ x → padding (mended l) ≡ 0
    go true e = let z = eqb-true (padding l) 0 e in rw (unpadded l z) (padding-questioned l ∙ z)
    go false e =
        let z = eqb-false (padding l) 0 e in
        let n = mended-length l in
        let f = padding-full l (omega arith) in
        padding-none (mended l) (omega arith)

blanks-low : (n : ℕ) → questioned (replicate n 32) ≡ replicate n 32
unfolding questioned mended_byte
blanks-low zero = refl
blanks-low (suc n) = rw (blanks-low n) refl

pub mended-low : (l : List ℕ) → questioned (mended l) ≡ mended l
unfolding mended
mended-low l = questioned-append (questioned l) (replicate (padding l) 32) ∙ rw (questioned-same (questioned l) (questioned-low l), blanks-low (padding l)) refl

pub mended-twice : (l : List ℕ) → mended (mended l) ≡ mended l
mended-twice l = unpadded (mended l) (padding-again l) ∙ mended-low l

-- ---- the code's own steps
pub pad_cut : (l : List ℕ) → cut_in atom_table (length l) ≡ true → 0 ≡ padding l
unfolding padding
pad_cut l e = go (is_atom_line l) (cut_in atom_table (length l)) e
  where
    go : (a c : Bool) → c ≡ true → 0 ≡ cond (a && not c) (80 - length l) 0
    go true true e = refl
    go false c e = refl
    go true false e = absurd (clash {b = false} e refl)

pub pad_atom : (l : List ℕ) → cut_in atom_table (length l) ≡ false → is_atom_line l ≡ true → 80 - length l ≡ padding l
unfolding padding
pad_atom l e f = go (is_atom_line l) (cut_in atom_table (length l)) e f
  where
    go : (a c : Bool) → c ≡ false → a ≡ true → 80 - length l ≡ cond (a && not c) (80 - length l) 0
    go true false e f = refl
    go true true e f = absurd (clash {b = true} refl e)
    go false c e f = absurd (clash {b = false} f refl)

pub pad_other : (l : List ℕ) → is_atom_line l ≡ false → 0 ≡ padding l
unfolding padding
pad_other l e = go (is_atom_line l) e
  where
    go : (a : Bool) → a ≡ false → 0 ≡ cond (a && not (cut_in atom_table (length l))) (80 - length l) 0
    go false e = refl
    go true e = absurd (clash {b = true} refl e)

pub pad_within : (l : List ℕ) → length l ≤ 1024 → length l + padding l ≤ 1024
pad_within l h = go (eqb (padding l) 0) refl
  where
    go : (x : Bool) → eqb (padding l) 0 ≡ x → length l + padding l ≤ 1024
    go true e = let z = eqb-true (padding l) 0 e in omega arith
    go false e =
        let z = eqb-false (padding l) 0 e in
        let f = padding-full l (omega arith) in
        omega arith
