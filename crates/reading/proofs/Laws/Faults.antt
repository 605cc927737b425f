-- Laws of the words of faults.
--     puts-fault      the two words of a fault, put one after the other
--     front-one       words behind one other, at the front
--     number-of, few-of, sort_of_lem  the parts of a fault's word are small
-- Assumes nothing.
use Prim.Native.Nat.{ℕ, suc, ◌+◌, ◌≤◌, ◌<◌}
use mathlib.Core.Path.{◌≡◌, refl}
use mathlib.Core.Bool.{Bool, true, false, cond}
use mathlib.Core.List.{List, [], ◌∷◌, ◌++◌}
use native.Mathlib.Omega.{arith}
use native.Mathlib.Numerals.{add-one}
use lib.ListN.{length, set, drop}
use lib.Dec.{eqb}
use lib.Seq.{sets-eq}
use Rattle.kind.specs.Kind.{row_place}
use Rattle.kind.specs.Kind as kinds
use Rattle.kind.specs.declared.Kind.{Kind}
use Rattle.kind.specs.declared.Kind.TheVariants.{Empty, Header, Remark, Atom, Hetatm, Anisou, Cryst1, Scale, Origx, Mtrix, Model, Master, Dbref, Dbref1, Dbref2, Seqres, Seqadv, Modres, Ssbond, Endmdl, Ter, End}
use Rattle.line.specs.Faults as faults
use Rattle.line.specs.declared.fault.FaultKind.{FaultKind}
use Rattle.line.specs.declared.fault.FaultKind.TheVariants.{Short, Wrong, NoDigit, NoSign, Unknown}
use Rattle.line.specs.declared.fault.Sort.{Sort}
use Rattle.line.specs.declared.fault.Sort.TheVariants as sort
use Rattle.wording.specs.Put.{Puts}
use Rattle.lexitem.specs.declared.fault.LineFault.{LineFault}
use Rattle.reading.specs.Faults.{sort_number, sort_of, fault_word, fault_words}

pub puts-fault : (l : List ℕ) (at : ℕ) (x f : LineFault) (w : ℕ) → x ≡ f → w ≡ fault_word x
    → Puts l at (fault_words f) (at + 2) (set (set l at x.line) (at + 1) w)
unfolding fault_words
puts-fault l at x f w e h = record { behind = refl; stands = rw (add-one at, h, e) refl }

pub front-one : (l m ws : List ℕ) (r k : ℕ) → 1 + length ws ≤ length l → Puts l 1 ws r m → set m 0 k ≡ (k ∷ ws) ++ drop (suc (length ws)) l
front-one [] m ws r k h p = absurd (omega arith)
front-one (a ∷ t) m ws r k h p = let e : 1 + length ws ≡ suc (length ws) = omega arith in rw (p.stands, sets-eq ws (a ∷ t) 1 h, e) refl

-- ---- the parts of a fault's word
row_below : (first row : ℕ) → first ≤ 13 → row_place first row < 256
unfolding row_place
row_below first row h = go (eqb row 0) (eqb row 1) (eqb row 2)
  where
    go : (a b c : Bool) → cond a first (cond b (first + 1) (cond c (first + 2) 255)) < 256
    go true b c = omega arith
    go false true c = omega arith
    go false false true = omega arith
    go false false false = omega arith

number-below : (k : Kind) → kinds.number_of k < 256
number-below (Scale row) = row_below 7 row (omega arith)
number-below (Origx row) = row_below 10 row (omega arith)
number-below (Mtrix row) = row_below 13 row (omega arith)
number-below Empty = omega arith
number-below Header = omega arith
number-below Remark = omega arith
number-below Atom = omega arith
number-below Hetatm = omega arith
number-below Anisou = omega arith
number-below Cryst1 = omega arith
number-below Model = omega arith
number-below Master = omega arith
number-below Dbref = omega arith
number-below Dbref1 = omega arith
number-below Dbref2 = omega arith
number-below Seqres = omega arith
number-below Seqadv = omega arith
number-below Modres = omega arith
number-below Ssbond = omega arith
number-below Endmdl = omega arith
number-below Ter = omega arith
number-below End = omega arith

pub number-of : (n : ℕ) (k : Kind) → n ≡ kinds.number_of k → n < 256
number-of n k e = rw e (number-below k)

pub few-of : (n : ℕ) (k : FaultKind) → n ≡ faults.number_of k → n ≤ 5
few-of n k e = rw e (go k)
  where
    go : (k : FaultKind) → faults.number_of k ≤ 5
    go Short = omega arith
    go (Wrong sort) = omega arith
    go NoDigit = omega arith
    go NoSign = omega arith
    go Unknown = omega arith

pub sort_of_lem : (n : ℕ) (k : FaultKind) → n ≡ sort_of k → n ≤ 3
sort_of_lem n k e = rw e (go k)
  where
    number : (s : Sort) → sort_number s ≤ 3
    number sort.Unsigned = omega arith
    number sort.Signed = omega arith
    number sort.Real = omega arith

    go : (k : FaultKind) → sort_of k ≤ 3
    go Short = omega arith
    go (Wrong s) = number s
    go NoDigit = omega arith
    go NoSign = omega arith
    go Unknown = omega arith
