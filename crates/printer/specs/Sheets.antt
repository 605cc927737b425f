-- "A writer for ATOM, HETATM, ANISOU, CRYST1, SCALE, ORIGX, MTRIX, MODEL, TER, ENDMDL and END, in the columns and decimal places of wwPDB 3.30.
-- Segment names and space groups go left-aligned, all else right-aligned; TER, ENDMDL and END are the name and blanks." Columns and decimals are
-- those of `written_in` (crates/format); a kind has here what stands in each of these fields, in the same order.
--     Entry, laid                    what is handed over for a field, and the cells that come of a list of them
--     Label                          what ATOM, HETATM and ANISOU share
--     atom_sheet, anisou_sheet, cell_sheet, scale_sheet, origx_sheet, mtrix_sheet, model_sheet, bare_sheet     the lines
use Rattle.std.specs.Prelude.{ℕ, suc, Bool, cond, List, [], ◌∷◌, ◌++◌, length, get_or, ltb, ℤ, Float}
use Prim.Native.String.{String}
use Rattle.line.specs.Bytes.{bytes}
use Rattle.line.specs.Columns.{◌⋯◌, only}
use Rattle.line.specs.declared.columns.Columns.{Columns}
use Rattle.kind.specs.Kind.{names, number_of}
use Rattle.kind.specs.Name.{name_at}
use Rattle.kind.specs.declared.Kind.{Kind}
use Rattle.kind.specs.declared.Kind.TheVariants.{Atom, Hetatm, Anisou, Cryst1, Scale, Origx, Mtrix, Model, Endmdl, Ter, End}
use Rattle.format.specs.Format.{Sort, FormatField, written_in}
use Rattle.format.specs.Format.Sort.{integer, text, character, real as real_of}
use Rattle.format.specs.Format.FormatField.{◌at◌, ◌from◌}
use Rattle.sheet.specs.Ink.{Ink, unsigned, signed, real, factor, charge, given, row, left, right}
use Rattle.sheet.specs.Ink.Ink.{lent}
use Rattle.sheet.specs.Sheet.{Cell, ◌holds◌, Sheet}
use Rattle.atom.specs.declared.record.Position.{Position}
use Rattle.atom.specs.declared.record.Factors.{Factors}
use Rattle.crystal.specs.declared.record.Cell.{Cell as CrystalCell}
use Rattle.transformation.specs.declared.record.Transformation.{Transformation}
use Rattle.printer.specs.declared.bare.Bare.{Bare}
use Rattle.printer.specs.declared.bare.Bare.TheVariants as bare

-- what is handed over for a field: what stands there, or a real, whose decimals the format says
pub data Entry : Type 0 where
  just : Ink → Entry
  decimals : Float → Entry

abbrev pub columns_in : FormatField → Columns
columns_in (s at columns) = columns
columns_in (s from start) = start ⋯ 80

abbrev decimals_by : Sort → ℕ
decimals_by integer = 0
decimals_by text = 0
decimals_by character = 0
decimals_by (real_of q) = q

abbrev decimals_in : FormatField → ℕ
decimals_in (s at columns) = decimals_by s
decimals_in (s from start) = decimals_by s

-- how many decimals the n-th real gets: those that are asked for, and where nothing is asked the format's
unfoldable pub places_at : List ℕ → ℕ → ℕ → ℕ
places_at asked n format = cond (ltb n (length asked)) (get_or asked n 0) format

abbrev pub cell_in : List ℕ → ℕ → FormatField → Entry → Cell
cell_in asked n field (just ink) = columns_in field holds ink
cell_in asked n field (decimals x) = columns_in field holds real (places_at asked n (decimals_in field)) x

abbrev pub reals_behind : ℕ → Entry → ℕ
reals_behind n (just ink) = n
reals_behind n (decimals x) = suc n

-- the entries in the fields, the n-th real and those behind it by what is asked for them
abbrev pub laid : List ℕ → ℕ → List FormatField → List Entry → List Cell
laid asked n [] entries = []
laid asked n (field ∷ fields) [] = []
laid asked n (field ∷ fields) (entry ∷ entries) = cell_in asked n field entry ∷ laid asked (reals_behind n entry) fields entries

-- ---- a kind's line
abbrev pub sheet_of : Kind → List ℕ → List Entry → Sheet
sheet_of k asked entries = record { name = name_at (number_of k) names; cells = laid asked 0 (written_in k) entries }

-- of SCALEn, ORIGXn and MTRIXn: the last byte of the name is a row's
abbrev pub row_sheet : String → ℕ → Kind → List ℕ → List Entry → Sheet
row_sheet name n k asked entries = record { name = bytes name; cells = only 5 holds row n ∷ laid asked 0 (written_in k) entries }

-- ---- ATOM, HETATM, ANISOU
-- an alternate location, a chain or an insertion code of no bytes is absent
pub record Label : Type 0 where
  pub serial : ℕ
  pub name : List ℕ
  pub alternate : List ℕ
  pub residue : List ℕ
  pub chain : List ℕ
  pub number : ℤ
  pub insertion : List ℕ
  pub segment : List ℕ
  pub element : List ℕ
  pub charge : ℤ

abbrev pub label : ℕ → List ℕ → List ℕ → List ℕ → List ℕ → ℤ → List ℕ → List ℕ → List ℕ → ℤ → Label
label serial name alternate residue chain number insertion segment element charge = record {
  serial = serial;
  name = name;
  alternate = alternate;
  residue = residue;
  chain = chain;
  number = number;
  insertion = insertion;
  segment = segment;
  element = element;
  charge = charge;
}

abbrev pub head_entries : Label → List Entry
head_entries v =
    just (unsigned v.serial)
    ∷ just (lent v.name)
    ∷ just (right v.alternate)
    ∷ just (right v.residue)
    ∷ just (right v.chain)
    ∷ just (signed v.number)
    ∷ just (right v.insertion)
    ∷ []

abbrev pub tail_entries : Label → List Entry
tail_entries v = just (left v.segment) ∷ just (right v.element) ∷ just (charge v.charge) ∷ []

-- HETATM has ATOM's fields
abbrev pub atom_sheet : Bool → Label → Position → Float → Float → List ℕ → Sheet
atom_sheet hetero v position occupancy bfactor asked = record {
  name = name_at (number_of (cond hetero Hetatm Atom)) names;
  cells = laid asked 0 (written_in Atom)
      (head_entries v
      ++ decimals position.x
      ∷ decimals position.y
      ∷ decimals position.z
      ∷ decimals occupancy
      ∷ decimals bfactor
      ∷ tail_entries v);
}

abbrev pub anisou_sheet : Label → Factors → Sheet
anisou_sheet v u =
    sheet_of Anisou []
    (head_entries v
    ++ just (factor u.u11)
    ∷ just (factor u.u22)
    ∷ just (factor u.u33)
    ∷ just (factor u.u12)
    ∷ just (factor u.u13)
    ∷ just (factor u.u23)
    ∷ tail_entries v)

-- ---- CRYST1
abbrev pub cell_sheet : CrystalCell → List ℕ → ℕ → List ℕ → Sheet
cell_sheet v group z asked =
    sheet_of Cryst1 asked
    (decimals v.a
    ∷ decimals v.b
    ∷ decimals v.c
    ∷ decimals v.alpha
    ∷ decimals v.beta
    ∷ decimals v.gamma
    ∷ just (left group)
    ∷ just (unsigned z)
    ∷ [])

-- ---- SCALEn, ORIGXn, MTRIXn
abbrev pub row_entries : Transformation → List Entry
row_entries v = decimals v.a ∷ decimals v.b ∷ decimals v.c ∷ decimals v.d ∷ []

abbrev pub scale_sheet : ℕ → Transformation → List ℕ → Sheet
scale_sheet n v asked = row_sheet "SCALE" n (Scale n) asked (row_entries v)

abbrev pub origx_sheet : ℕ → Transformation → List ℕ → Sheet
origx_sheet n v asked = row_sheet "ORIGX" n (Origx n) asked (row_entries v)

abbrev pub mtrix_sheet : ℕ → ℕ → Transformation → Bool → List ℕ → Sheet
mtrix_sheet n serial v isGiven asked =
    row_sheet "MTRIX" n (Mtrix n) asked (just (unsigned serial) ∷ row_entries v ++ just (given isGiven) ∷ [])

-- ---- MODEL, and the names alone: TER, ENDMDL, END
abbrev pub model_sheet : ℕ → Sheet
model_sheet number = sheet_of Model [] (just (unsigned number) ∷ [])

abbrev pub bare_sheet : Bare → Sheet
bare_sheet bare.Ter = sheet_of Ter [] []
bare_sheet bare.Endmdl = sheet_of Endmdl [] []
bare_sheet bare.End = sheet_of End [] []
