-- A record as the line it is written in. Texts and characters are shown by their view, "with the caller's stand-in where the line doesn't reach";
-- "the atom name goes in as four bytes lent by the caller". "9 .. when the record is of another kind (0, 6)".
use Rattle.std.specs.Prelude.{ℕ, List}
use Rattle.line.specs.Text.{view_of}
use Rattle.line.specs.declared.text.Field.TheVariants.{Words, One}
use Rattle.atom.specs.declared.record.Basics.{Basics}
use Rattle.sheet.specs.Sheet.{Sheet, other_kind}
use Rattle.printer.specs.Sheets.{Label, label, atom_sheet, anisou_sheet, cell_sheet, scale_sheet, origx_sheet, mtrix_sheet, model_sheet, bare_sheet}
use Rattle.printer.specs.declared.bare.Bare.TheVariants as bare
use Rattle.lexitem.specs.declared.item.LexItem.{LexItem}
use Rattle.lexitem.specs.declared.item.LexItem.TheVariants as item

abbrev pub label_of : Basics → List ℕ → List ℕ → List ℕ → Label
label_of b line standIn name =
    label
    b.serial
    name
    (view_of line standIn (One b.alternate))
    (view_of line standIn (Words b.residue))
    (view_of line standIn (One b.chain))
    b.number
    (view_of line standIn (One b.insertion))
    (view_of line standIn (Words b.segment))
    (view_of line standIn (Words b.element))
    b.charge

-- the lent name counts for ATOM, HETATM and ANISOU alone; asked are the decimals of the reals in turn, and where nothing is asked they are the format's
abbrev pub item_sheet : LexItem → List ℕ → List ℕ → List ℕ → List ℕ → Sheet
item_sheet item.Empty line standIn name asked = other_kind
item_sheet (item.Header v) line standIn name asked = other_kind
item_sheet (item.Remark v) line standIn name asked = other_kind
item_sheet (item.Atom v) line standIn name asked =
    atom_sheet v.hetero (label_of v.basics line standIn name) v.position v.occupancy v.bfactor asked
item_sheet (item.Anisou v) line standIn name asked = anisou_sheet (label_of v.basics line standIn name) v.factors
item_sheet (item.Crystal v) line standIn name asked = cell_sheet v.cell (view_of line standIn (Words v.spacegroup)) v.z asked
item_sheet (item.Scale v) line standIn name asked = scale_sheet v.row v.values asked
item_sheet (item.OrigX v) line standIn name asked = origx_sheet v.row v.values asked
item_sheet (item.MtriX v) line standIn name asked = mtrix_sheet v.row v.serial v.values v.given asked
item_sheet (item.Model v) line standIn name asked = model_sheet v.number
item_sheet (item.Master v) line standIn name asked = other_kind
item_sheet (item.Seqres v) line standIn name asked = other_kind
item_sheet (item.Dbref v) line standIn name asked = other_kind
item_sheet (item.Dbref1 v) line standIn name asked = other_kind
item_sheet (item.Dbref2 v) line standIn name asked = other_kind
item_sheet (item.Seqadv v) line standIn name asked = other_kind
item_sheet (item.Modres v) line standIn name asked = other_kind
item_sheet (item.SSBond v) line standIn name asked = other_kind
item_sheet item.EndModel line standIn name asked = bare_sheet bare.Endmdl
item_sheet item.Ter line standIn name asked = bare_sheet bare.Ter
item_sheet item.End line standIn name asked = bare_sheet bare.End
