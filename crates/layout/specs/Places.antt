-- 2026-02: "how many digits stood after the point", "one byte for each R field of the record, ascending by column". The rows of a record ascend, and no
-- row but that of an R field is a `Real`.
use Rattle.std.specs.Prelude.{ℕ, List, [], ◌∷◌}
use Rattle.layout.specs.Each.{each}
use Rattle.row.specs.declared.Row.{Row}
use Rattle.row.specs.declared.Value.{Value}
use Rattle.row.specs.declared.Value.TheVariants.{Unsigned, Signed, Real, Factor, Words, One, Flag, Nothing}

abbrev pub places_in : Value → List ℕ
places_in (Unsigned n) = []
places_in (Signed n) = []
places_in (Real x places) = places ∷ []
places_in (Factor x) = []
places_in (Words t) = []
places_in (One c) = []
places_in (Flag b) = []
places_in Nothing = []

unfoldable pub row_places : Row → List ℕ
row_places r = places_in r.1

abbrev pub places_of : List Row → List ℕ
places_of rows = each row_places rows
