-- "CRYST1: R 6..15 15..24 24..33 33..40 40..47 47..54, T 55..min(66, len), U 66..len if len is over 66, else 1."
use Rattle.std.specs.Prelude.{ℕ, Bool, true, false, List, [], ◌∷◌, ◌++◌, length, ltb}
use Rattle.field.specs.Number.{real_at, places_at, unsigned_from, zero_real}
use Rattle.field.specs.Table.{Entry, table_noted, line_noted}
use Rattle.field.specs.Table.Entry.{r, t_within, u-rest, unwritten}
use Rattle.field.specs.Text.{text_within}
use Rattle.line.specs.Columns.{◌⋯◌}
use Rattle.line.specs.Faults.{no_faults}
use Rattle.line.specs.Given.{Given}
use Rattle.line.specs.declared.columns.Columns.{Columns}
use Rattle.line.specs.declared.fault.Faults.{Faults}
use Rattle.line.specs.declared.fault.Got.{Got}
use Rattle.row.specs.Rows.{◌is◌}
use Rattle.row.specs.declared.Row.{Row}
use Rattle.row.specs.declared.Value.TheVariants.{Unsigned, Real, Words}
use Rattle.crystal.specs.declared.record.Cell.{Cell}
use Rattle.crystal.specs.declared.record.CellPlaces.{CellPlaces}
use Rattle.crystal.specs.declared.record.Crystal.{Crystal}

-- the columns by name, for the record and its rows; the table has them in numbers
pub data Field : Type 0 where
  a b c alpha beta gamma spacegroup : Field

abbrev pub at : Field → Columns
at a = 6 ⋯ 15
at b = 15 ⋯ 24
at c = 24 ⋯ 33
at alpha = 33 ⋯ 40
at beta = 40 ⋯ 47
at gamma = 47 ⋯ 54
at spacegroup = 55 ⋯ 66

abbrev pub z_from : ℕ
z_from = 66

-- Z ends with the line, and is written only where the line is long enough
abbrev pub has_z : List ℕ → Bool
has_z l = ltb 66 (length l)

abbrev pub z_entry : Bool → Entry
z_entry true = u-rest 66
z_entry false = unwritten 66

abbrev pub cell_table : List Entry
cell_table =
    r (6 ⋯ 15) zero_real ∷ r (15 ⋯ 24) zero_real ∷ r (24 ⋯ 33) zero_real
    ∷ r (33 ⋯ 40) zero_real ∷ r (40 ⋯ 47) zero_real ∷ r (47 ⋯ 54) zero_real ∷ []

abbrev pub crystal_table : Bool → List Entry
crystal_table written = cell_table ++ t_within (55 ⋯ 66) ∷ z_entry written ∷ []

-- whether a real may have an exponent is the option's
abbrev pub cell_of : Bool → List ℕ → Cell
cell_of on l = record {
  a = real_at on l (at a) zero_real;
  b = real_at on l (at b) zero_real;
  c = real_at on l (at c) zero_real;
  alpha = real_at on l (at alpha) zero_real;
  beta = real_at on l (at beta) zero_real;
  gamma = real_at on l (at gamma) zero_real;
}

abbrev pub cell_places_of : Bool → List ℕ → CellPlaces
cell_places_of on l = record {
  a = places_at on l (at a);
  b = places_at on l (at b);
  c = places_at on l (at c);
  alpha = places_at on l (at alpha);
  beta = places_at on l (at beta);
  gamma = places_at on l (at gamma);
}

abbrev pub z_of : Bool → List ℕ → ℕ
z_of true l = unsigned_from l z_from
z_of false l = 1

abbrev pub crystal_of : Bool → List ℕ → Crystal
crystal_of on l = record { cell = cell_of on l; places = cell_places_of on l; spacegroup = text_within l (at spacegroup); z = z_of (has_z l) l }

abbrev pub got_z : List ℕ → Faults → Got ℕ
got_z l fs = record { value = z_of (has_z l) l; faults = line_noted l (z_entry (has_z l) ∷ []) fs }

abbrev pub got_crystal : Given → Got Crystal
got_crystal g =
    record { value = crystal_of g.options.exponents g.line; faults = table_noted g (crystal_table (has_z g.line)) no_faults }

abbrev pub crystal_fields : Crystal → List Row
crystal_fields v =
    (at a).start is Real v.cell.a v.places.a
    ∷ (at b).start is Real v.cell.b v.places.b
    ∷ (at c).start is Real v.cell.c v.places.c
    ∷ (at alpha).start is Real v.cell.alpha v.places.alpha
    ∷ (at beta).start is Real v.cell.beta v.places.beta
    ∷ (at gamma).start is Real v.cell.gamma v.places.gamma
    ∷ (at spacegroup).start is Words v.spacegroup
    ∷ z_from is Unsigned v.z
    ∷ []
