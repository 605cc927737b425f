-- No field is left out and none is added: the cells of each kind's line are in the columns that the format has for the kind, in their order, with the
-- segment name of older versions in ATOM, HETATM and ANISOU, and a row's byte before the fields of SCALEn, ORIGXn and MTRIXn.
-- Assumes nothing.
use mathlib.Core.Path.{◌≡◌, refl}
use Prim.Native.Nat.{ℕ}
use mathlib.Core.Bool.{Bool}
use mathlib.Core.List.{List, ◌∷◌, map}
use lib.Ieee.{Float}
use Rattle.line.specs.Columns.{only}
use Rattle.line.specs.declared.columns.Columns.{Columns}
use Rattle.kind.specs.declared.Kind.{Kind}
use Rattle.kind.specs.declared.Kind.TheVariants.{Atom, Hetatm, Anisou, Cryst1, Scale, Origx, Mtrix, Model}
use Rattle.format.specs.Format.{format_of, written_in}
use Rattle.sheet.specs.Sheet.{Sheet, columns_of}
use Rattle.atom.specs.declared.record.Position.{Position}
use Rattle.atom.specs.declared.record.Factors.{Factors}
use Rattle.crystal.specs.declared.record.Cell.{Cell}
use Rattle.transformation.specs.declared.record.Transformation.{Transformation}
use Rattle.printer.specs.Sheets.{Label, columns_in, atom_sheet, anisou_sheet, cell_sheet, scale_sheet, origx_sheet, mtrix_sheet, model_sheet}

-- the columns of a line's cells, and of the fields that a kind is written in
abbrev drawn_in : Sheet → List Columns
drawn_in s = map columns_of s.cells

abbrev columns_for : Kind → List Columns
columns_for k = map columns_in (written_in k)

module _ (v : Label) where
  pub atom-whole : (hetero : Bool) (position : Position) (occupancy bfactor : Float) (asked : List ℕ)
      → (drawn_in (atom_sheet hetero v position occupancy bfactor asked) ≡ columns_for Atom) × (written_in Hetatm ≡ written_in Atom)
  atom-whole hetero position occupancy bfactor asked = (refl, refl)

  pub anisou-whole : (u : Factors) → drawn_in (anisou_sheet v u) ≡ columns_for Anisou
  anisou-whole u = refl

pub cell-whole : (v : Cell) (group : List ℕ) (z : ℕ) (asked : List ℕ) → drawn_in (cell_sheet v group z asked) ≡ map columns_in (format_of Cryst1)
cell-whole v group z asked = refl

module _ (n : ℕ) (v : Transformation) (asked : List ℕ) where
  pub scale-whole : drawn_in (scale_sheet n v asked) ≡ only 5 ∷ map columns_in (format_of (Scale n))
  scale-whole = refl

  pub origx-whole : drawn_in (origx_sheet n v asked) ≡ only 5 ∷ map columns_in (format_of (Origx n))
  origx-whole = refl

  pub mtrix-whole : (serial : ℕ) (given : Bool) → drawn_in (mtrix_sheet n serial v given asked) ≡ only 5 ∷ map columns_in (format_of (Mtrix n))
  mtrix-whole serial given = refl

pub model-whole : (number : ℕ) → drawn_in (model_sheet number) ≡ map columns_in (format_of Model)
model-whole number = refl
