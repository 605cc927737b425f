-- What a list of noted faults tells of the faults that were noted, where they are no more than it has places for.
--     noted-exact      as many are counted
--     noted-listed     and listed, in their order
--     noted-tells      so they are told by what is noted
-- Each is shown from any start that leaves room for all of them.
-- Assumes nothing.
use Prim.Native.Nat.{◌+◌, ◌≤◌, ◌<◌}
use mathlib.Core.Path.{◌≡◌, refl, sym, ap, ◌∙◌}
use mathlib.Core.List.{List, [], ◌∷◌, ◌++◌, append-nil}
use native.Mathlib.Numerals.{add-one}
use native.Mathlib.Omega.{arith}
use borrow.Author.Tests.{lt-ltb}
use lib.ListN.{length, set, length-set}
use lib.Seq.{take-suc-set, append_snoc}
use Rattle.line.specs.declared.fault.Fault.{Fault}
use Rattle.line.specs.declared.fault.Faults.{Faults}
use Rattle.line.specs.Faults.{no_faults, noted, all_noted, listed}

-- ---- one fault more
abbrev put : Faults → Fault → Faults
put s f = record { list = set s.list s.count f; count = s.count + 1 }

module _ (s : Faults) (f : Fault) (room : s.count < 15) where
  noted-put : noted s f ≡ put s f
  unfolding noted
  noted-put = rw (lt-ltb s.count 15 room) refl

  listed-put : length s.list ≡ 15 → listed (put s f) ≡ listed s ++ f ∷ []
  unfolding listed
  listed-put l = rw (add-one s.count) (take-suc-set s.list s.count f (omega arith))

-- ---- from any start
all-count : (fs : List Fault) (s : Faults) → s.count + length fs ≤ 15 → (all_noted s fs).count ≡ s.count + length fs
all-count [] s h = omega arith
all-count (f ∷ t) s h =
    let ih = all-count t (put s f) (omega arith) in
    rw (all_noted, noted-put s f (omega arith)) (omega arith)

all_listed : (fs : List Fault) (s : Faults) → length s.list ≡ 15 → s.count + length fs ≤ 15
    → listed (all_noted s fs) ≡ listed s ++ fs
all_listed [] s l h = sym (append-nil (listed s))
all_listed (f ∷ t) s l h =
    let room : s.count < 15 = omega arith in
    let ih = all_listed t (put s f) (length-set s.list s.count f ∙ l) (omega arith) in
    rw (all_noted, noted-put s f room, ih, listed-put s f room l) (append_snoc (listed s) f t)

-- ---- from none
module _ (fs : List Fault) (few : length fs ≤ 15) where
  pub noted-exact : (all_noted no_faults fs).count ≡ length fs
  unfolding no_faults
  noted-exact = let n = all-count fs no_faults (omega arith) in omega arith

  pub noted-listed : listed (all_noted no_faults fs) ≡ fs
  unfolding no_faults listed
  noted-listed = all_listed fs no_faults refl (omega arith)

pub noted-tells : (fs gs : List Fault) → length fs ≤ 15 → length gs ≤ 15
    → all_noted no_faults fs ≡ all_noted no_faults gs → fs ≡ gs
noted-tells fs gs h k e = sym (noted-listed fs h) ∙ ap listed e ∙ noted-listed gs k
