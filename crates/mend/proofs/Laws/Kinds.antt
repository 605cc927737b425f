-- A mended line is of the same kind.
--     padded-long    a line that is padded has over six bytes
--     kind-mended    whatever the options
-- Assumes nothing.
use Prim.Native.Nat.{ℕ, ◌-◌, ◌<◌}
use mathlib.Core.Path.{◌≡◌, refl, ap, ◌∙◌}
use mathlib.Core.Bool.{Bool, true, false, cond, not, ◌&&◌}
use mathlib.Core.List.{List, ◌++◌}
use native.Mathlib.Omega.{arith}
use borrow.Author.Tests.{ltb-true, lt-ltb, eqb-true, eqb-false}
use lib.ListN.{length, take, replicate}
use lib.Seq.{take-append-le}
use lib.Dec.{ltb, eqb}
use Rattle.number.proofs.Laws.Choice.{clash}
use Rattle.kind.specs.Kind.{kind_of, kind_by, same, short_names}
use Rattle.kind.specs.declared.Kind.{Kind}
use Rattle.kind.specs.declared.Kind.TheVariants.{Empty, Ter, End}
use Rattle.atom.specs.Atom.{atom_table}
use Rattle.line.specs.Bytes.{bytes}
use Rattle.line.specs.declared.options.Mode.{Mode}
use Rattle.mend.specs.Mend.{questioned, is_atom, is_atom_line, cut_in, padding, mended}
use Rattle.mend.proofs.Laws.Bytes.{questioned-length, kind-questioned}
use Rattle.mend.proofs.Laws.Mended.{unpadded, mended-length}

either-other : (b : Bool) (j k : Kind) → is_atom j ≡ false → is_atom k ≡ false → is_atom (cond b j k) ≡ false
either-other true j k p q = p
either-other false j k p q = q

short-other : (l : List ℕ) → ltb 6 (length l) ≡ false → is_atom_line l ≡ false
unfolding kind_of
short-other l e =
    let t = take 3 l in
    rw e
    (either-other (ltb 2 (length l)) (kind_by t short_names) Empty
    (either-other (same t (bytes "TER")) Ter (cond (same t (bytes "END")) End Empty) refl (either-other (same t (bytes "END")) End Empty refl refl))
    refl)

pub padded-long : (l : List ℕ) → 0 < padding l → 6 < length l
unfolding padding
padded-long l h = go (ltb 6 (length l)) refl (is_atom_line l) refl h
  where
    go : (x : Bool) → ltb 6 (length l) ≡ x → (a : Bool) → is_atom_line l ≡ a
        → 0 < cond (a && not (cut_in atom_table (length l))) (80 - length l) 0 → 6 < length l
    go true e a f h = ltb-true 6 (length l) e
    go false e true f h = absurd (clash f (short-other l e))
    go false e false f h = absurd (omega arith)

long-kind : (atoms : Bool) (mode : Mode) (s t : List ℕ) → 6 < length s → 6 < length (s ++ t) → kind_of atoms mode (s ++ t) ≡ kind_of atoms mode s
unfolding kind_of
long-kind atoms mode s t h k = rw (lt-ltb 6 (length s) h, lt-ltb 6 (length (s ++ t)) k, take-append-le 6 s t (omega arith)) refl

pub kind-mended : (atoms : Bool) (mode : Mode) (l : List ℕ) → kind_of atoms mode (mended l) ≡ kind_of atoms mode l
unfolding mended
kind-mended atoms mode l = go (eqb (padding l) 0) refl
  where
    go : (x : Bool) → eqb (padding l) 0 ≡ x → kind_of atoms mode (questioned l ++ replicate (padding l) 32) ≡ kind_of atoms mode l
    go true e = ap (kind_of atoms mode) (unpadded l (eqb-true (padding l) 0 e)) ∙ kind-questioned atoms mode l
    go false e =
        let z = eqb-false (padding l) 0 e in
        let h = padded-long l (omega arith) in
        let n = questioned-length l in
        let m = mended-length l in
        long-kind atoms mode (questioned l) (replicate (padding l) 32) (omega arith) (omega arith) ∙ kind-questioned atoms mode l
