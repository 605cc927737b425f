-- A row has one number of places at most, so that sixteen rows have sixteen at most; and none, if it isn't a real's.
-- Assumes nothing.
use Prim.Native.Nat.{ℕ, ◌≤◌}
use mathlib.Core.Path.{◌≡◌, refl}
use mathlib.Core.List.{List, [], ◌∷◌}
use native.Mathlib.Omega.{arith}
use lib.Ieee.{Float}
use lib.ListN.{length, length-append}
use Rattle.row.specs.declared.Row.{Row}
use Rattle.row.specs.declared.Value.{Value}
use Rattle.row.specs.declared.Value.TheVariants.{Unsigned, Signed, Real, Factor, Words, One, Flag, Nothing}
use Rattle.layout.specs.Each.{each}
use Rattle.layout.specs.Places.{places_in, row_places, places_of}

one-most : (v : Value) → length (places_in v) ≤ 1
one-most (Unsigned n) = omega arith
one-most (Signed n) = omega arith
one-most (Real x places) = omega arith
one-most (Factor x) = omega arith
one-most (Words t) = omega arith
one-most (One c) = omega arith
one-most (Flag b) = omega arith
one-most Nothing = omega arith

pub places_none : (v : Value) → ((x : Float) (places : ℕ) → v ≡ Real x places → ⊥) → places_in v ≡ []
places_none (Unsigned n) h = refl
places_none (Signed n) h = refl
places_none (Real x places) h = absurd (h x places refl)
places_none (Factor x) h = refl
places_none (Words t) h = refl
places_none (One c) h = refl
places_none (Flag b) h = refl
places_none Nothing h = refl

pub places-most : (rows : List Row) → length (places_of rows) ≤ length rows
unfolding each row_places
places-most [] = omega arith
places-most (row ∷ rows) =
    omega (arith, length-append (places_in row.1) (places_of rows), one-most row.1, places-most rows)
