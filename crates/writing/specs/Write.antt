-- The entries that write: "one 64-bit number: 0 is done, else a refusal as `number * 2^48 + place * 2^32 + length`. hetero 0 is ATOM, anything else
-- HETATM; given 0 is blank, anything else `1`. family or which above 2 is another kind: 9 (0, 6)."
use Rattle.std.specs.Prelude.{ℕ, ◌≡◌, cond, not, List, length, eqb, Float}
use Rattle.sheet.specs.Sheet.{Written, Sheet, other_kind, answer_of, afterwards, line_of, numbers_of}
use Rattle.packing.specs.Packed.{packed_as}
use Rattle.printer.specs.Sheets.{Label, atom_sheet, anisou_sheet, cell_sheet, scale_sheet, origx_sheet, mtrix_sheet, bare_sheet}
use Rattle.transformation.specs.declared.record.Transformation.{Transformation}
use Rattle.printer.specs.declared.bare.Bare.TheVariants as bare

unfoldable pub packed : Written → ℕ
packed w = packed_as (numbers_of w)

abbrev pub atom_by : ℕ → Label → Float → Float → Float → Float → Float → List ℕ → Sheet
atom_by hetero v x y z occupancy bfactor asked = atom_sheet (not (eqb hetero 0)) v (record { x = x; y = y; z = z }) occupancy bfactor asked

abbrev pub anisou_by : Label → Float → Float → Float → Float → Float → Float → Sheet
anisou_by v u11 u22 u33 u12 u13 u23 = anisou_sheet v (record { u11 = u11; u22 = u22; u33 = u33; u12 = u12; u13 = u13; u23 = u23 })

abbrev pub cell_by : Float → Float → Float → Float → Float → Float → List ℕ → ℕ → List ℕ → Sheet
cell_by a b c alpha beta gamma group z asked =
    cell_sheet (record { a = a; b = b; c = c; alpha = alpha; beta = beta; gamma = gamma }) group z asked

unfoldable pub row_by : ℕ → ℕ → ℕ → Float → Float → Float → Float → ℕ → List ℕ → Sheet
row_by family row serial a b c d given asked =
    let v : Transformation = record { a = a; b = b; c = c; d = d } in
    cond (eqb family 0) (scale_sheet row v asked)
    (cond (eqb family 1) (origx_sheet row v asked) (cond (eqb family 2) (mtrix_sheet row serial v (not (eqb given 0)) asked) other_kind))

unfoldable pub bare_by : ℕ → Sheet
bare_by which =
    cond (eqb which 0) (bare_sheet bare.Ter) (cond (eqb which 1) (bare_sheet bare.Endmdl) (cond (eqb which 2) (bare_sheet bare.End) other_kind))

-- what an entry answers, and every lent byte afterwards
pub record Packs (old : List ℕ) (s : Sheet) (r : ℕ) (new : List ℕ) : Type 0 where
  pub answers : r ≡ packed (answer_of s.cells (length old))
  pub leaves : new ≡ afterwards old (line_of s) (answer_of s.cells (length old))
