-- "9, tested before 8, exactly when the record is of another kind (0, 6), a row is above 2 (5, 1), or a number (NaN and infinities too) or text doesn't fit
-- its columns (a C not absent is one byte, the lent name four) or a text byte is outside 32 to 126; place and length are those of the first such
-- field by column. 8 is then an output under 80 bytes." In words of numbers: nothing here is a test.
--     Odd                   a byte outside 32 to 126
--     Misfit                a field doesn't fit its columns
--     First, AllFit         the first field that doesn't fit, and that there is none
--     Lowest                the same by column
--     When                  what writing a sheet answers exactly when, and the lent bytes afterwards
use Rattle.std.specs.Prelude.{ℕ, ◌-◌, ◌≤◌, ◌<◌, ◌≡◌, ◌↔◌, ◌≢◌, ◌⊎◌, length, drop, Option, Some, None, Ok, Err}
use mathlib.Core.List.{List, [], ◌∷◌, ◌++◌, Memᴰ}
use Rattle.line.specs.declared.columns.Columns.{Columns}
use Rattle.page.specs.Numerals.{decimal, signed_decimal}
use Rattle.number.specs.Whole.{with_sign}
use Rattle.cell.specs.Places.{places_of}
use Rattle.cell.specs.Text.{fixed}
use Rattle.cell.specs.Words.{charge_text}
use Rattle.cell.specs.declared.places.Rounded.{Rounded}
use Rattle.sheet.specs.Ink.{Ink}
use Rattle.sheet.specs.Sheet.{Written, Cell, ◌holds◌, Sheet, columns_of, line_of}
use Rattle.sheet.specs.declared.Figure.{Figure}
use Rattle.sheet.specs.declared.Figure.TheVariants as figures
use Rattle.sheet.specs.declared.Unwritten.TheVariants as unwritten

-- a text has a byte outside 32 to 126
abbrev pub Odd : List ℕ → Type 0
Odd t = (b : ℕ) × Memᴰ b t × ((b < 32) ⊎ (126 < b))

-- a real has no decimal of so many places and ten digits, or one that is too long; the same of one of ANISOU's six
abbrev pub RealMisfit : ℕ → ℕ → Option Rounded → Type 0
RealMisfit w q (Some r) = w < length (fixed q r.minus r.digits)
RealMisfit w q None = Unit {0}

abbrev pub FactorMisfit : ℕ → Option Rounded → Type 0
FactorMisfit w (Some r) = w < length (signed_decimal (with_sign r.minus r.digits))
FactorMisfit w None = Unit {0}

-- what doesn't fit w columns
abbrev pub FigureMisfit : ℕ → Figure → Type 0
FigureMisfit w (figures.Unsigned n) = w < length (decimal n)
FigureMisfit w (figures.Signed z) = w < length (signed_decimal z)
FigureMisfit w (figures.Real q x) = RealMisfit w q (places_of q x)
FigureMisfit w (figures.Factor x) = FactorMisfit w (places_of 4 x)
FigureMisfit w (figures.Charge z) = w < length (charge_text z)
FigureMisfit w (figures.Given b) = ⊥
FigureMisfit w (figures.Row n) = 2 < n

abbrev pub InkMisfit : ℕ → Ink → Type 0
InkMisfit w (Ink.figure f) = FigureMisfit w f
InkMisfit w (Ink.words isLeft t) = (w < length t) ⊎ Odd t
InkMisfit w (Ink.lent t) = (length t ≢ w) ⊎ Odd t
InkMisfit w Ink.other = Unit {0}

abbrev pub Misfit : Cell → Type 0
Misfit (at holds ink) = InkMisfit (at.end - at.start) ink

-- the first cell that doesn't fit has these columns; and no cell doesn't fit
abbrev pub First : List Cell → Columns → Type 0
First [] at = ⊥
First (c ∷ rest) at = (Misfit c × (at ≡ columns_of c)) ⊎ ((Misfit c → ⊥) × First rest at)

abbrev pub AllFit : List Cell → Type 0
AllFit [] = Unit {0}
AllFit (c ∷ rest) = (Misfit c → ⊥) × AllFit rest

-- a cell that doesn't fit has these columns, and no cell that doesn't fit starts below them
pub record Lowest (cells : List Cell) (at : Columns) : Type 0 where
  pub among : (c : Cell) × Memᴰ c cells × Misfit c × (at ≡ columns_of c)
  pub least : (c : Cell) → Memᴰ c cells → Misfit c → at.start ≤ (columns_of c).start

-- ---- the answer, exactly when
pub record When (old : List ℕ) (s : Sheet) (r : Written) (new : List ℕ) : Type 0 where
  -- 9, with the columns of the first field that doesn't fit
  pub refused : (at : Columns) → (r ≡ Err (unwritten.NoFit at)) ↔ First s.cells at
  -- 8, where every field fits
  pub short : (r ≡ Err unwritten.NoRoom) ↔ (AllFit s.cells × (length old < 80))
  -- a line
  pub line : (r ≡ Ok tt) ↔ (AllFit s.cells × (80 ≤ length old))
  -- "output untouched"; "past 80 the output stays"
  pub untouched : r ≢ Ok tt → new ≡ old
  pub lent : r ≡ Ok tt → (new ≡ line_of s ++ drop 80 old) × (length (line_of s) ≡ 80)
