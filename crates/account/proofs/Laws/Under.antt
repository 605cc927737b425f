-- What a fault's row points at.
--     under            from the row's own bytes one gets back the fault's columns: its blanks, and then its carets, up to column 120
--     account-under    so of every fault of a line that the program reads
-- Assumes nothing.
use Prim.Native.Nat.{ℕ, suc, ◌+◌, ◌-◌, ◌<◌, min}
use mathlib.Core.Path.{◌≡◌, refl, ap}
use mathlib.Core.List.{List, [], ◌∷◌, ◌++◌, append_assoc}
use native.Mathlib.Omega.{arith}
use borrow.Author.Tests.{eq-eqb}
use lib.ListN.{drop, replicate}
use Rattle.kind.specs.declared.Kind.{Kind}
use Rattle.line.specs.declared.fault.Fault.{Fault}
use Rattle.lexer.specs.Refusals.{faults}
use Rattle.account.specs.Account.{under as marks, named, said, fault_row, input_of}
use Rattle.account.specs.Rows.{leading}
use Rattle.account.proofs.Laws.Seen.{Seen, faults-seen}

-- so many of a byte in front of a text that begins with another
module _ (b : ℕ) (t : List ℕ) (none : leading b t ≡ 0) where
  counted : (n : ℕ) → leading b (replicate n b ++ t) ≡ n
  unfolding leading
  counted ℕ.zero = none
  counted (suc n) = rw (eq-eqb b b refl) (ap suc (counted n))

  behind : (n : ℕ) → drop n (replicate n b ++ t) ≡ t
  behind ℕ.zero = refl
  behind (suc n) = behind n

module _ (k : Kind) (f : Fault) (early : f.place < 120) (some : 0 < f.length) where
  carets : leading 94 (replicate (min f.length (120 - f.place)) 94 ++ said k f.place) ≡ min f.length (120 - f.place)
  unfolding leading said named
  carets = counted 94 (said k f.place) refl (min f.length (120 - f.place))

  -- there is a caret at least
  no-blank : (n : ℕ) → 0 < n → leading 32 (replicate n 94 ++ said k f.place) ≡ 0
  unfolding leading
  no-blank ℕ.zero h = absurd (omega arith)
  no-blank (suc n) h = refl

  apart : fault_row k f ≡ replicate (4 + f.place) 32 ++ (replicate (min f.length (120 - f.place)) 94 ++ said k f.place)
  unfolding fault_row marks
  apart = append_assoc (replicate (4 + f.place) 32) (replicate (min f.length (120 - f.place)) 94) (said k f.place)

  pub under : (leading 32 (fault_row k f) ≡ 4 + f.place)
      × (leading 94 (drop (4 + f.place) (fault_row k f)) ≡ min f.length (120 - f.place))
  under =
      let first = no-blank (min f.length (120 - f.place)) (omega arith) in
      (rw apart (counted 32 _ first (4 + f.place)), rw (apart, behind 32 _ first (4 + f.place)) carets)

-- ---- of the faults of a line
abbrev pub Points : Kind → List Fault → Type 0
Points k [] = Unit
Points k (f ∷ fs) =
    ((leading 32 (fault_row k f) ≡ 4 + f.place) × (leading 94 (drop (4 + f.place) (fault_row k f)) ≡ min f.length (120 - f.place)))
    × Points k fs

all-point : (k : Kind) (fs : List Fault) → Seen fs → Points k fs
all-point k [] h = tt
all-point k (f ∷ fs) h = (under k f h.0.0 h.0.1, all-point k fs h.1)

pub account-under : (number : ℕ) (l : List ℕ) (k : Kind) → Points k (faults (input_of number l))
account-under number l k = all-point k (faults (input_of number l)) (faults-seen number l)
