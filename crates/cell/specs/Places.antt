-- "A real goes out as the decimal of its places nearest to the double, a tie to the even last digit": N over 10 ^ q, for q places.
use Rattle.std.specs.Prelude.{ℕ, ◌*◌, ◌^◌, Bool, cond, leb, ltb, Float, Option, Some, None}
use Rattle.std.specs.Float.{nan, inf, fin}
use Rattle.std.specs.Float.Ieee.{up, down}
use Rattle.std.specs.Float.Ieee.Nearest.{closest}
use Rattle.cell.specs.declared.places.Rounded.{Rounded}

abbrev pub rounded : Bool → ℕ → Rounded
rounded s n = record { minus = s; digits = n }

-- no column takes more than ten digits
unfoldable pub within : Bool → ℕ → Option Rounded
within s n = cond (ltb n (10 ^ 10)) (Some (rounded s n)) None

-- a finite double has a sign and is a whole number over another: N is the whole number nearest to 10 ^ q times that, a tie to the even one
unfoldable pub rounded_to : ℕ → Float → Option Rounded
rounded_to q nan = None
rounded_to q (inf s) = None
rounded_to q (fin s m e) = within s (closest (m * up e * 10 ^ q) (down e))

-- no column takes more than nine places and the point
unfoldable pub places_of : ℕ → Float → Option Rounded
places_of q x = cond (leb q 9) (rounded_to q x) None
