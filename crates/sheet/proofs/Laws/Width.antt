-- Every cell fills its columns.
-- Assumes nothing.
use mathlib.Core.Path.{◌≡◌}
use Prim.Native.Nat.{ℕ, ◌-◌}
use lib.ListN.{length}
use Rattle.page.specs.Numerals.{decimal, signed_decimal}
use Rattle.cell.specs.Places.{places_of}
use Rattle.cell.specs.Words.{charge_text, flag_text}
use Rattle.cell.proofs.Laws.Width.{blanks-width, texted-width, real-width, factor-width, words-width, lent-width, row-width}
use Rattle.sheet.specs.Ink.{Ink, figure_bytes, ink_bytes}
use Rattle.sheet.specs.Sheet.{Cell, ◌holds◌, columns_of, cell_bytes}
use Rattle.sheet.specs.declared.Figure.{Figure}
use Rattle.sheet.specs.declared.Figure.TheVariants as figures

figure-width : (w : ℕ) (f : Figure) → length (figure_bytes w f) ≡ w
figure-width w (figures.Unsigned n) = texted-width w (decimal n)
figure-width w (figures.Signed z) = texted-width w (signed_decimal z)
figure-width w (figures.Real q x) = real-width w q (places_of q x)
figure-width w (figures.Factor x) = factor-width w (places_of 4 x)
figure-width w (figures.Charge z) = texted-width w (charge_text z)
figure-width w (figures.Given b) = texted-width w (flag_text b)
figure-width w (figures.Row n) = row-width w n

ink_width : (w : ℕ) (i : Ink) → length (ink_bytes w i) ≡ w
ink_width w (Ink.figure f) = figure-width w f
ink_width w (Ink.words isLeft t) = words-width isLeft w t
ink_width w (Ink.lent t) = lent-width w t
ink_width w Ink.other = blanks-width w

pub cell-width : (c : Cell) → length (cell_bytes c) ≡ (columns_of c).end - (columns_of c).start
cell-width (at holds i) = ink_width (at.end - at.start) i
