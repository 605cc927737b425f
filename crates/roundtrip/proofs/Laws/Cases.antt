-- Lines and doubles by computing, so that the theorems are seen to speak of something.
-- Assumes nothing.
use mathlib.Core.Path.{◌≡◌, refl}
use mathlib.Core.Bool.{true}
use lib.IntN.{pos}
use lib.Ieee.{fin, div, neg, of_int}
use Rattle.std.specs.Prelude.{Some}
use Rattle.line.specs.Bytes.{bytes}
use Rattle.page.specs.Numerals.{decimal_before, decimal}
use Rattle.real.specs.Double.{double_of}
use Rattle.cell.specs.Cell.{fitting, texted}
use Rattle.cell.specs.Places.{rounded, within, rounded_to, places_of}
use Rattle.cell.specs.Text.{blanks, right, last_digits, pointed, fixed}
use Rattle.sheet.specs.Sheet.{cells_from, line_of}
use Rattle.printer.specs.Sheets.{model_sheet}
use Rattle.roundtrip.specs.Returned.{Fit, double_back}

pub model-line : Fit (model_sheet 12).cells
    × (line_of (model_sheet 12) ≡ bytes "MODEL       12                                                                  ")
unfolding line_of cells_from blanks texted fitting right decimal decimal_before
model-line = ((refl, tt), refl)

-- -0.0004 in three places: what is written, and the negative zero that it is read as
pub minus-zero : (places_of 3 (double_of true 4 4) ≡ Some (rounded true 0)) × (fixed 3 true 0 ≡ bytes "-0.000")
    × (double_back 3 (places_of 3 (double_of true 4 4)) ≡ fin true 0 (pos 0))
unfolding places_of rounded_to within double_of div neg of_int fixed pointed last_digits decimal decimal_before
minus-zero = (refl, refl, refl)
