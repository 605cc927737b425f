-- "The 2026-01 writer may then be asked for the written places (no point for 0), refusal 9 as before. The count is the definition's p, with trailing
-- zeros included": a field that was read and is written at its count says the same sign, M and p, digit for digit; where it doesn't fit it is refused,
-- never rounded. "The 2026-01 promise of the same bits is for fields without an exponent" (2026-10): so is this.
--     as_read      the line of a record that was read, each real with as many decimals as it was read with
--     SaysSame    a real field says in one line what it says in another
use Rattle.std.specs.Prelude.{ℕ, ◌≡◌, Bool, List, [], Float}
use Rattle.line.specs.Columns.{part_of}
use Rattle.line.specs.Given.{Given}
use Rattle.line.specs.declared.columns.Columns.{Columns}
use Rattle.number.specs.Decimal.{decimal_of}
use Rattle.field.specs.Number.{real_at, places_at, real_faults}
use Rattle.kind.specs.declared.Kind.{Kind}
use Rattle.layout.specs.Places.{places_of}
use Rattle.lexitem.specs.Describe.{item_of, fields_of}
use Rattle.sheet.specs.Sheet.{Sheet}
use Rattle.writer.specs.Writer.{item_sheet}

-- what `write_as_read` writes of what was read from a line
abbrev pub as_read : Kind → Given → List ℕ → List ℕ → Sheet
as_read k g standIn name = item_sheet (item_of k g) g.line standIn name (places_of (fields_of (item_of k g)))

-- the same sign, M and p, and with them the same double and count, and no fault, by the option for exponents
pub record SaysSame (on : Bool) (old new : List ℕ) (at : Columns) (default : Float) : Type 0 where
  pub digits : decimal_of (part_of new at) ≡ decimal_of (part_of old at)
  pub value : real_at on new at default ≡ real_at on old at default
  pub places : places_at on new at ≡ places_at on old at
  pub clear : real_faults on new at ≡ []
