-- Demand 3: of each real field that is present in an accepted record. If the line reaches the field's last column and the trimmed text is a plain
-- decimal, no fault names the columns, and the double keeps the written sign and is so near the written number that the distance times 2^53 is at
-- most that number's size. Otherwise the field is its default, and exactly one fault names the columns. "ANISOU's six meet it too, with p = 4,
-- where their integer has no fault, but for the sign of a written `-0`, which gives positive zero." And 2026-02: "how many digits stood after the
-- point, 0 to 9, and 0 for a default .. The count is the definition's p, with trailing zeros included." ANISOU's six are integers and have none.
-- And 2026-10: "With the option on, the texts that are read count in demand 3 with the plain decimals, over 2^126 in place of 2^82, M kept below 10^10."
use Rattle.std.specs.Prelude.{ℕ, suc, ◌-◌, ◌≡◌, Bool, false, cond, ◌&&◌, eqb, nat_abs, Float, ℤ, Option, Some, None}
use mathlib.Core.List.{List, [], ◌∷◌, Memᴰ}
use Rattle.number.specs.Whole.{signed_of}
use Rattle.real.specs.Sign.{below}
use Rattle.real.specs.Wide.{said_with, scale_with, NearWritten}
use Rattle.number.specs.Decimal.{plain}
use Rattle.number.specs.Wide.{wide}
use Rattle.number.specs.declared.wide.Wide.{Wide}
use Rattle.line.specs.Columns.{part_of}
use Rattle.line.specs.declared.columns.Columns.{Columns}
use Rattle.line.specs.declared.fault.Fault.{Fault}
use Rattle.field.specs.Number.{zero_real}
use Rattle.field.specs.Table.{Entry}
use Rattle.field.specs.Table.Entry.{r, a}
use Rattle.lexitem.specs.Describe.{fields_by, fields_of}
use Rattle.lexitem.specs.declared.item.LexItem.{LexItem}
use Rattle.lexer.specs.Refusals.{Input, kind, given}
use Rattle.row.specs.Rows.{◌is◌}
use Rattle.row.specs.declared.Value.TheVariants.{Real, Factor}

-- ---- the faults that name columns
-- a fault's place and length are the columns'
abbrev pub names : Columns → Fault → Bool
names at f = eqb f.place at.start && eqb f.length (at.end - at.start)

-- how many do
unfoldable pub named_by : Columns → List Fault → ℕ
named_by at [] = 0
named_by at (f ∷ fs) = cond (names at f) (suc (named_by at fs)) (named_by at fs)

-- ---- the written number: its sign, M, p, whether the exponent is below zero, and its size x. A plain decimal has the exponent 0
-- an integer in ten-thousandths; a written `-0` is the integer 0, which has no minus
abbrev pub in_ten_thousandths : Option ℤ → Option Wide
in_ten_thousandths (Some z) = Some (wide (plain (below z) (nat_abs z) 4) false 0)
in_ten_thousandths None = None

-- how many digits stood after its point
abbrev pub places_said : Option Wide → ℕ
places_said (Some w) = w.decimal.places
places_said None = 0

-- ---- the real fields of an accepted line
pub record RealField : Type 0 where
  pub columns : Columns
  -- what is written there, if the line reaches them, and the power of 2 that V is over
  pub written : Option Wide
  pub scale : ℕ
  -- what the record shows, and what it shows where no number is written
  pub double : Float
  pub default : Float

abbrev pub table_in : Input → List Entry
table_in i = fields_by (kind i) (given i)

abbrev pub on_in : Input → Bool
on_in i = i.options.exponents

-- an entry of the line's table that is R or one of ANISOU's six, which take no exponent, with what the record shows in the entry's first column
pub data RealIn (i : Input) (x : LexItem) : RealField → Type 0 where
  decimal : (at : Columns) (default y : Float) (places : ℕ)
      → Memᴰ (r at default) (table_in i) → Memᴰ (at.start is Real y places) (fields_of x)
      → RealIn i x (record { columns = at; written = said_with (on_in i) (part_of i.line at); scale = scale_with (on_in i); double = y; default = default })
  factor : (at : Columns) (y : Float)
      → Memᴰ (a at) (table_in i) → Memᴰ (at.start is Factor y) (fields_of x)
      → RealIn i x (record { columns = at; written = in_ten_thousandths (signed_of (part_of i.line at)); scale = 82; double = y; default = zero_real })

-- ---- the promise, by what is written and by how many faults name the columns
abbrev pub Kept : Option Wide → ℕ → RealField → Type 0
Kept (Some w) named f = (named ≡ 0) × NearWritten f.scale w.decimal.minus w.decimal.digits w.decimal.places w.lower w.exponent f.double
Kept None named f = (named ≡ 1) × (f.double ≡ f.default)
