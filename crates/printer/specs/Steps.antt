-- The cells that the parts of a line draw, in the code's own steps. No rule of 02 is here: columns are found by how many fields stand before them.
use Rattle.std.specs.Prelude.{ℕ, Bool, cond, List, [], ◌∷◌, drop, ℤ, Float}
use Rattle.line.specs.Columns.{only}
use Rattle.kind.specs.Kind.{names, number_of}
use Rattle.kind.specs.Name.{name_at}
use Rattle.kind.specs.declared.Kind.TheVariants.{Atom, Hetatm, Anisou, Cryst1, Scale}
use Rattle.format.specs.Format.{written_in}
use Rattle.sheet.specs.Ink.{unsigned, signed, factor, charge, row, left, right}
use Rattle.sheet.specs.Ink.Ink.{lent}
use Rattle.sheet.specs.Sheet.{Cell, ◌holds◌, Sheet}
use Rattle.atom.specs.declared.record.Position.{Position}
use Rattle.atom.specs.declared.record.Factors.{Factors}
use Rattle.crystal.specs.declared.record.Cell.{Cell as CrystalCell}
use Rattle.transformation.specs.declared.record.Transformation.{Transformation}
use Rattle.printer.specs.Sheets.{laid, row_entries}
use Rattle.printer.specs.Sheets.Entry.{just, decimals}

abbrev pub atom_name : Bool → List ℕ
atom_name hetero = name_at (number_of (cond hetero Hetatm Atom)) names

abbrev pub name_cells : ℕ → List ℕ → List ℕ → List Cell
name_cells serial name alternate =
    laid [] 0 (written_in Atom) (just (unsigned serial) ∷ just (lent name) ∷ just (right alternate) ∷ [])

abbrev pub residue_cells : List ℕ → List ℕ → ℤ → List ℕ → List Cell
residue_cells residue chain number insertion =
    laid [] 0 (drop 3 (written_in Atom)) (just (right residue) ∷ just (right chain) ∷ just (signed number) ∷ just (right insertion) ∷ [])

abbrev pub position_cells : Position → List ℕ → List Cell
position_cells v asked = laid asked 0 (drop 7 (written_in Atom)) (decimals v.x ∷ decimals v.y ∷ decimals v.z ∷ [])

abbrev pub weight_cells : Float → Float → List ℕ → List Cell
weight_cells occupancy bfactor asked = laid asked 3 (drop 10 (written_in Atom)) (decimals occupancy ∷ decimals bfactor ∷ [])

-- the three on the diagonal, and the other three
abbrev pub diagonal_cells : Factors → List Cell
diagonal_cells v = laid [] 0 (drop 7 (written_in Anisou)) (just (factor v.u11) ∷ just (factor v.u22) ∷ just (factor v.u33) ∷ [])

abbrev pub mixed_cells : Factors → List Cell
mixed_cells v = laid [] 0 (drop 10 (written_in Anisou)) (just (factor v.u12) ∷ just (factor v.u13) ∷ just (factor v.u23) ∷ [])

abbrev pub tail_cells : List ℕ → List ℕ → ℤ → List Cell
tail_cells segment element z = laid [] 0 (drop 12 (written_in Atom)) (just (left segment) ∷ just (right element) ∷ just (charge z) ∷ [])

abbrev pub length_cells : CrystalCell → List ℕ → List Cell
length_cells v asked = laid asked 0 (written_in Cryst1) (decimals v.a ∷ decimals v.b ∷ decimals v.c ∷ [])

abbrev pub angle_cells : CrystalCell → List ℕ → List Cell
angle_cells v asked = laid asked 3 (drop 3 (written_in Cryst1)) (decimals v.alpha ∷ decimals v.beta ∷ decimals v.gamma ∷ [])

abbrev pub row_cells : Transformation → List ℕ → List Cell
row_cells v asked = laid asked 0 (written_in (Scale 0)) (row_entries v)

-- SCALEn and ORIGXn, by the first five bytes of the name
abbrev pub values_sheet : List ℕ → ℕ → Transformation → List ℕ → Sheet
values_sheet name n v asked = record { name = name; cells = only 5 holds row n ∷ row_cells v asked }
