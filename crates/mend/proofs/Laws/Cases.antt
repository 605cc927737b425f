-- Worked lines: the lengths at which an ATOM is padded, and the changes.
-- Assumes nothing.
use Prim.Native.Nat.{ℕ, ◌-◌}
use mathlib.Core.Path.{◌≡◌, refl}
use mathlib.Core.List.{List, [], ◌∷◌, ◌++◌, map}
use lib.ListN.{replicate}
use Rattle.std.specs.Prelude.{Option, Some, None}
use Rattle.kind.specs.Kind.{kind_of}
use Rattle.line.specs.Bytes.{bytes}
use Rattle.line.specs.Columns.{◌⋯◌}
use Rattle.line.specs.declared.columns.Columns.{Columns}
use Rattle.mend.specs.Mend.{mended_byte, questioned, padding, mended, cut_field, left_cut}
use Rattle.mend.specs.Changes.{What, runs, changes_of}

abbrev atom : ℕ → List ℕ
atom n = bytes "ATOM  " ++ replicate (n - 6) 49

abbrev hetero : ℕ → List ℕ
hetero n = bytes "HETATM" ++ replicate (n - 6) 49

-- an ATOM of six bytes is EMPTY; 79 bytes cut the charge, and 78 cut nothing
lengths : map (λ (n : ℕ). padding (atom n)) (6 ∷ 7 ∷ 10 ∷ 11 ∷ 12 ∷ 13 ∷ 16 ∷ 17 ∷ 21 ∷ 26 ∷ 27 ∷ 30 ∷ 31 ∷ 54 ∷ 55 ∷ 66 ∷ 70 ∷ 72 ∷ 73 ∷ 78 ∷ 79 ∷ 80 ∷ 81 ∷ [])
    ≡ 0 ∷ 0 ∷ 0 ∷ 69 ∷ 68 ∷ 0 ∷ 64 ∷ 63 ∷ 59 ∷ 54 ∷ 53 ∷ 50 ∷ 0 ∷ 26 ∷ 0 ∷ 14 ∷ 10 ∷ 8 ∷ 0 ∷ 2 ∷ 0 ∷ 0 ∷ 0 ∷ []
unfolding padding kind_of
lengths = refl

other : padding (bytes "ANISOU" ++ replicate 48 49) ≡ 0
unfolding padding kind_of
other = refl

-- the field that is cut
fields : ◌≡◌ {A = List (Option Columns)} (left_cut (atom 79) ∷ left_cut (atom 50) ∷ left_cut (atom 54) ∷ left_cut (bytes "ANISOU" ++ replicate 44 49) ∷ [])
    (Some (78 ⋯ 80) ∷ Some (46 ⋯ 54) ∷ None ∷ None ∷ [])
unfolding left_cut cut_field kind_of
fields = refl

-- three runs, the last at the line's end, and the padding
listed : changes_of (hetero 20 ++ 200 ∷ 255 ∷ 65 ∷ 128 ∷ 127 ∷ 130 ∷ [])
    ≡ record { place = 20; length = 2; what = What.replaced }
    ∷ record { place = 23; length = 1; what = What.replaced }
    ∷ record { place = 25; length = 1; what = What.replaced }
    ∷ record { place = 26; length = 54; what = What.padded }
    ∷ []
unfolding changes_of runs padding kind_of
listed = refl

made : mended (bytes "TER" ++ 128 ∷ []) ≡ bytes "TER?"
unfolding mended questioned mended_byte padding kind_of
made = refl
