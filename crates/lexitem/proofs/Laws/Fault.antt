-- The faults that an answer tells of.
--     told-stamped            those of a reader, each with its line and kind
--     in_stamped              and what they say of their columns is what it was
--     told_at                 the n-th of them
-- Assumes nothing.
use Prim.Native.Nat.{ℕ, suc, ◌<◌}
use mathlib.Core.Path.{◌≡◌, refl, ap}
use mathlib.Core.List.{List, [], ◌∷◌}
use native.Mathlib.Omega.{arith}
use borrow.Author.Tests.{lt-ltb}
use lib.ListN.{length, get_or, take, length-take}
use lib.Seq.{get_or-take}
use Rattle.line.specs.Faults.{listed, blank_fault}
use Rattle.line.specs.declared.fault.Fault.{Fault}
use Rattle.line.specs.declared.fault.Faults.{Faults}
use Rattle.kind.specs.declared.Kind.{Kind}
use Rattle.lexitem.specs.Fault.{stamped, stamped_as, told, told_at_of, faults_in}
use Rattle.lexitem.specs.declared.fault.LineFault.{LineFault}
use Rattle.lexitem.specs.declared.fault.LineFaults.{LineFaults}

module _ (line : ℕ) (kind : Kind) where
  pub told-stamped : (fs : Faults) → told (stamped_as line kind fs) ≡ stamped line kind (listed fs)
  unfolding told stamped_as
  told-stamped fs = refl

  pub in_stamped : (fs : List Fault) → faults_in (stamped line kind fs) ≡ fs
  in_stamped [] = refl
  in_stamped (f ∷ t) = ap (λ (s : List Fault). f ∷ s) (in_stamped t)

  pub stamped-length : (fs : List Fault) → length (stamped line kind fs) ≡ length fs
  stamped-length [] = refl
  stamped-length (f ∷ t) = ap suc (stamped-length t)

  pub stamped-at : (fs : List Fault) (n : ℕ) (d : Fault) (e : LineFault) → n < length fs
      → record { line = line; kind = kind; fault = get_or fs n d } ≡ get_or (stamped line kind fs) n e
  stamped-at [] n d e h = absurd (omega arith)
  stamped-at (f ∷ t) ℕ.zero d e h = refl
  stamped-at (f ∷ t) (suc n) d e h = stamped-at t n d e (omega arith)

-- ---- the n-th
pub told_at : (fs : LineFaults) (n : ℕ) (e : LineFault) → n < length (told fs) → told_at_of fs n ≡ get_or (told fs) n e
unfolding told listed
told_at fs n e h =
    let counted = take fs.count fs.list in
    let long = stamped-length fs.line fs.kind counted in
    let least = length-take fs.count fs.list in
    rw (lt-ltb n fs.count (omega arith), ← get_or-take fs.count fs.list n blank_fault (omega arith))
    (stamped-at fs.line fs.kind counted n blank_fault e (omega arith))

-- ---- their columns
pub told_in : (fs : LineFaults) → faults_in (told fs) ≡ take fs.count fs.list
unfolding told listed
told_in fs = in_stamped fs.line fs.kind (take fs.count fs.list)
