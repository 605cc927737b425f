-- What stands in a field of a written line, which bytes that is in so many columns, and whether it fits them.
--     unsigned, signed, charge     whole numbers
--     real, factor                 a real in so many places, and one of ANISOU's six
--     given, row                   MTRIX's `1`, and the last byte of SCALEn, ORIGXn and MTRIXn
--     left, right                  a text at a side of its columns; a C is one in a column of its own
--     lent, other                  the atom's name as it is lent; the name of a kind that isn't written
use Rattle.std.specs.Prelude.{ℕ, Bool, true, false, List, ℤ, Float}
use Rattle.page.specs.Numerals.{decimal, signed_decimal}
use Rattle.cell.specs.Text.{blanks}
use Rattle.cell.specs.Places.{places_of}
use Rattle.cell.specs.Cell.{fitting, texted, real_fits, real_bytes, factor_fits, factor_bytes}
use Rattle.cell.specs.Words.{words_fit, words_bytes, lent_fits, lent_bytes, charge_text, flag_text, row_fits_of, row_bytes}
use Rattle.sheet.specs.declared.Figure.{Figure}
use Rattle.sheet.specs.declared.Figure.TheVariants as figures

pub data Ink : Type 0 where
  figure : Figure → Ink
  words : Bool → List ℕ → Ink
  lent : List ℕ → Ink
  other : Ink

abbrev pub unsigned : ℕ → Ink
unsigned n = Ink.figure (figures.Unsigned n)

abbrev pub signed : ℤ → Ink
signed z = Ink.figure (figures.Signed z)

abbrev pub real : ℕ → Float → Ink
real q x = Ink.figure (figures.Real q x)

abbrev pub factor : Float → Ink
factor x = Ink.figure (figures.Factor x)

abbrev pub charge : ℤ → Ink
charge z = Ink.figure (figures.Charge z)

abbrev pub given : Bool → Ink
given b = Ink.figure (figures.Given b)

abbrev pub row : ℕ → Ink
row n = Ink.figure (figures.Row n)

abbrev pub left : List ℕ → Ink
left t = Ink.words true t

abbrev pub right : List ℕ → Ink
right t = Ink.words false t

-- ---- whether it fits
abbrev pub figure_fits : ℕ → Figure → Bool
figure_fits w (figures.Unsigned n) = fitting w (decimal n)
figure_fits w (figures.Signed z) = fitting w (signed_decimal z)
figure_fits w (figures.Real q x) = real_fits w q (places_of q x)
figure_fits w (figures.Factor x) = factor_fits w (places_of 4 x)
figure_fits w (figures.Charge z) = fitting w (charge_text z)
figure_fits w (figures.Given b) = fitting w (flag_text b)
figure_fits w (figures.Row n) = row_fits_of w n

abbrev pub ink_fits : ℕ → Ink → Bool
ink_fits w (Ink.figure f) = figure_fits w f
ink_fits w (Ink.words isLeft t) = words_fit w t
ink_fits w (Ink.lent t) = lent_fits w t
ink_fits w Ink.other = false

-- ---- its bytes; blanks, where it doesn't fit
abbrev pub figure_bytes : ℕ → Figure → List ℕ
figure_bytes w (figures.Unsigned n) = texted w (decimal n)
figure_bytes w (figures.Signed z) = texted w (signed_decimal z)
figure_bytes w (figures.Real q x) = real_bytes w q (places_of q x)
figure_bytes w (figures.Factor x) = factor_bytes w (places_of 4 x)
figure_bytes w (figures.Charge z) = texted w (charge_text z)
figure_bytes w (figures.Given b) = texted w (flag_text b)
figure_bytes w (figures.Row n) = row_bytes w n

abbrev pub ink_bytes : ℕ → Ink → List ℕ
ink_bytes w (Ink.figure f) = figure_bytes w f
ink_bytes w (Ink.words isLeft t) = words_bytes isLeft w t
ink_bytes w (Ink.lent t) = lent_bytes w t
ink_bytes w Ink.other = blanks w
