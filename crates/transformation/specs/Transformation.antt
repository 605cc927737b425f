-- "SCALE, ORIGX: R 10..20 20..30 30..40 45..55. MTRIX: U 7..10, R as SCALE, given = (byte 59 is `1`), false under 60."
use Rattle.std.specs.Prelude.{ℕ, Bool, List, [], ◌∷◌, ◌++◌, get_or, eqb}
use Rattle.field.specs.Number.{unsigned_at, real_at, places_at, zero_real}
use Rattle.field.specs.Table.{Entry, table_noted}
use Rattle.field.specs.Table.Entry.{u, r}
use Rattle.line.specs.Columns.{◌⋯◌}
use Rattle.line.specs.Faults.{no_faults}
use Rattle.line.specs.Given.{Given}
use Rattle.line.specs.declared.columns.Columns.{Columns}
use Rattle.line.specs.declared.fault.Got.{Got}
use Rattle.row.specs.Rows.{◌is◌}
use Rattle.row.specs.declared.Row.{Row}
use Rattle.row.specs.declared.Value.TheVariants.{Unsigned, Real, Flag}
use Rattle.transformation.specs.declared.record.Transformation.{Transformation}
use Rattle.transformation.specs.declared.record.RowPlaces.{RowPlaces}
use Rattle.transformation.specs.declared.record.NumberedRow.{NumberedRow}
use Rattle.transformation.specs.declared.record.MtriX.{MtriX}

-- the columns by name, for the records and their rows; the tables have them in numbers
pub data Field : Type 0 where
  serial a b c d : Field

abbrev pub at : Field → Columns
at serial = 7 ⋯ 10
at a = 10 ⋯ 20
at b = 20 ⋯ 30
at c = 30 ⋯ 40
at d = 45 ⋯ 55

abbrev pub given_at : ℕ
given_at = 59

abbrev pub transformation_table : List Entry
transformation_table = r (10 ⋯ 20) zero_real ∷ r (20 ⋯ 30) zero_real ∷ r (30 ⋯ 40) zero_real ∷ r (45 ⋯ 55) zero_real ∷ []

abbrev pub mtrix_table : List Entry
mtrix_table = u (7 ⋯ 10) ∷ transformation_table ++ Entry.given 59 ∷ []

-- whether a real may have an exponent is the option's
abbrev pub transformation_of : Bool → List ℕ → Transformation
transformation_of on l = record {
  a = real_at on l (at a) zero_real;
  b = real_at on l (at b) zero_real;
  c = real_at on l (at c) zero_real;
  d = real_at on l (at d) zero_real;
}

abbrev pub row_places_of : Bool → List ℕ → RowPlaces
row_places_of on l = record { a = places_at on l (at a); b = places_at on l (at b); c = places_at on l (at c); d = places_at on l (at d) }

-- of a SCALE and of an ORIGX
abbrev pub numbered_of : ℕ → Bool → List ℕ → NumberedRow
numbered_of row on l = record { row = row; values = transformation_of on l; places = row_places_of on l }

-- a byte past the line's end is no `1`
abbrev pub given_of : List ℕ → Bool
given_of l = eqb (get_or l given_at 0) 49

abbrev pub mtrix_of : ℕ → Bool → List ℕ → MtriX
mtrix_of row on l = record {
  row = row;
  serial = unsigned_at l (at serial);
  values = transformation_of on l;
  places = row_places_of on l;
  given = given_of l;
}

abbrev pub got_numbered : ℕ → Given → Got NumberedRow
got_numbered row g = record { value = numbered_of row g.options.exponents g.line; faults = table_noted g transformation_table no_faults }

abbrev pub got_mtri_x : ℕ → Given → Got MtriX
got_mtri_x row g = record { value = mtrix_of row g.options.exponents g.line; faults = table_noted g mtrix_table no_faults }

abbrev pub transformation_fields : Transformation → RowPlaces → List Row
transformation_fields v n =
    (at a).start is Real v.a n.a
    ∷ (at b).start is Real v.b n.b
    ∷ (at c).start is Real v.c n.c
    ∷ (at d).start is Real v.d n.d
    ∷ []

abbrev pub numbered_fields : NumberedRow → List Row
numbered_fields v = transformation_fields v.values v.places

abbrev pub mtrix_fields : MtriX → List Row
mtrix_fields v =
    (at serial).start is Unsigned v.serial ∷ transformation_fields v.values v.places ++ given_at is Flag v.given ∷ []
