-- What is said of each kind: what it asks of its line, its table of fields, and its record; and of each record: its rows and its kind. A part
-- that only some lines have is a Bool argument of the table, and the mode is another. "6: CRYST1 under 55, MODRES under 29, SEQADV under 49, SSBOND under 36."
use Rattle.std.specs.Prelude.{ℕ, Bool, true, false, cond, List, [], ◌∷◌}
use Rattle.field.specs.Table.{Entry, table_faults}
use Rattle.line.specs.Given.{Given}
use Rattle.line.specs.declared.fault.Fault.{Fault}
use Rattle.line.specs.declared.options.Mode.{Mode}
use Rattle.header.specs.Header.{header_table, header_of, header_fields}
use Rattle.remark.specs.Remark.{remark_table, remark_of, remark_fields}
use Rattle.atom.specs.Atom.{atom_table, atom_of, anisou_table, anisou_of, atom_fields, anisou_fields}
use Rattle.crystal.specs.Crystal.{has_z, crystal_table, crystal_of, crystal_fields}
use Rattle.transformation.specs.Transformation.{transformation_table, numbered_of, mtrix_table, mtrix_of, numbered_fields, mtrix_fields}
use Rattle.model.specs.Model.{model_table, model_of, model_fields}
use Rattle.master.specs.Master.{master_table, master_of, master_fields}
use Rattle.seqres.specs.Seqres.{seqres_table, seqres_of, seqres_fields}
use Rattle.dbref.specs.Dbref.{dbref_table, dbref_of, dbref1_table, dbref1_of, dbref2_table, dbref2_of, dbref_fields, dbref1_fields, dbref2_fields}
use Rattle.seqadv.specs.Seqadv.{has_target, seqadv_table, seqadv_of, seqadv_fields}
use Rattle.modres.specs.Modres.{modres_table, modres_of, modres_fields}
use Rattle.ssbond.specs.Ssbond.{has_tail, ssbond_table, ssbond_of, ssbond_fields}
use Rattle.row.specs.declared.Row.{Row}
use Rattle.atom.specs.declared.record.Atom.{Atom as AtomRecord}
use Rattle.kind.specs.declared.Kind.{Kind}
use Rattle.kind.specs.declared.Kind.TheVariants.{Empty, Header, Remark, Atom, Hetatm, Anisou, Cryst1, Scale, Origx, Mtrix, Model, Master, Dbref, Dbref1, Dbref2, Seqres, Seqadv, Modres, Ssbond, Endmdl, Ter, End}
use Rattle.lexitem.specs.declared.bound.Bound.{Bound}
use Rattle.lexitem.specs.declared.bound.Bound.TheVariants as bound
use Rattle.lexitem.specs.declared.item.LexItem.{LexItem}
use Rattle.lexitem.specs.declared.item.LexItem.TheVariants as item

pub record Description : Type 0 where
  pub bound : Bound
  -- whether a line has the part that only some have
  pub part : List ℕ → Bool
  -- the fields in a mode, with that part or without, in the order of the faults
  pub table : Mode → Bool → List Entry
  pub item : Given → LexItem

-- a kind that asks nothing of its line, whose lines have all the same fields
abbrev pub plainly : List Entry → (Given → LexItem) → Description
plainly table item = record { bound = bound.Free; part = λ l. false; table = λ mode part. table; item = item }

-- one whose fields go by the mode
abbrev pub moded : (Mode → List Entry) → (Mode → List ℕ → LexItem) → Description
moded table item =
    record { bound = bound.Free; part = λ l. false; table = λ mode part. table mode; item = λ g. item g.options.mode g.line }

-- one that asks something
abbrev pub asking : Bound → List Entry → (Given → LexItem) → Description
asking b table item = record { bound = b; part = λ l. false; table = λ mode part. table; item = item }

-- one that asks for so many bytes, some of whose lines have a part
abbrev pub parted : ℕ → (List ℕ → Bool) → (Bool → List Entry) → (Given → LexItem) → Description
parted least part table item = record { bound = bound.Least least; part = part; table = λ mode. table; item = item }

abbrev pub describe : Kind → Description
describe Empty = plainly [] (λ g. item.Empty)
describe Header = asking bound.Header header_table (λ g. item.Header header_of)
describe Remark = asking bound.Remark remark_table (λ g. item.Remark (remark_of g.line))
describe Atom = plainly atom_table (λ g. item.Atom (atom_of false g.options.exponents g.line))
describe Hetatm = plainly atom_table (λ g. item.Atom (atom_of true g.options.exponents g.line))
describe Anisou = plainly anisou_table (λ g. item.Anisou (anisou_of g.line))
describe Cryst1 = parted 55 has_z crystal_table (λ g. item.Crystal (crystal_of g.options.exponents g.line))
describe (Scale row) = plainly transformation_table (λ g. item.Scale (numbered_of row g.options.exponents g.line))
describe (Origx row) = plainly transformation_table (λ g. item.OrigX (numbered_of row g.options.exponents g.line))
describe (Mtrix row) = plainly mtrix_table (λ g. item.MtriX (mtrix_of row g.options.exponents g.line))
describe Model = moded model_table (λ mode l. item.Model (model_of mode l))
describe Master = plainly master_table (λ g. item.Master (master_of g.line))
describe Dbref = plainly dbref_table (λ g. item.Dbref (dbref_of g.line))
describe Dbref1 = moded dbref1_table (λ mode l. item.Dbref1 (dbref1_of mode l))
describe Dbref2 = plainly dbref2_table (λ g. item.Dbref2 (dbref2_of g.line))
describe Seqres = plainly seqres_table (λ g. item.Seqres (seqres_of g.line))
describe Seqadv = parted 49 has_target seqadv_table (λ g. item.Seqadv (seqadv_of g.line))
describe Modres = asking (bound.Least 29) modres_table (λ g. item.Modres (modres_of g.line))
describe Ssbond = parted 36 has_tail ssbond_table (λ g. item.SSBond (ssbond_of g.options.exponents g.line))
describe Endmdl = plainly [] (λ g. item.EndModel)
describe Ter = plainly [] (λ g. item.Ter)
describe End = plainly [] (λ g. item.End)

abbrev pub bound_of : Kind → Bound
bound_of k = (describe k).bound

abbrev pub table_of : Mode → Kind → Bool → List Entry
table_of mode k part = (describe k).table mode part

-- the fields of a line of a kind
abbrev pub fields_by : Kind → Given → List Entry
fields_by k g = table_of g.options.mode k ((describe k).part g.line)

abbrev pub item_of : Kind → Given → LexItem
item_of k g = (describe k).item g

-- the faults of a line of a kind, in the order of its table
unfoldable pub faults_of : Kind → Given → List Fault
faults_of k g = table_faults g (fields_by k g)

-- ---- of a record
-- "Every field of a kind's row is present (Z and given always), except an absent C, an SSBOND or SEQADV part not read, and triples not read." What
-- isn't present has its column here and shows nothing
abbrev pub fields_of : LexItem → List Row
fields_of item.Empty = []
fields_of (item.Header v) = header_fields v
fields_of (item.Remark v) = remark_fields v
fields_of (item.Atom v) = atom_fields v
fields_of (item.Anisou v) = anisou_fields v
fields_of (item.Crystal v) = crystal_fields v
fields_of (item.Scale v) = numbered_fields v
fields_of (item.OrigX v) = numbered_fields v
fields_of (item.MtriX v) = mtrix_fields v
fields_of (item.Model v) = model_fields v
fields_of (item.Master v) = master_fields v
fields_of (item.Seqres v) = seqres_fields v
fields_of (item.Dbref v) = dbref_fields v
fields_of (item.Dbref1 v) = dbref1_fields v
fields_of (item.Dbref2 v) = dbref2_fields v
fields_of (item.Seqadv v) = seqadv_fields v
fields_of (item.Modres v) = modres_fields v
fields_of (item.SSBond v) = ssbond_fields v
fields_of item.EndModel = []
fields_of item.Ter = []
fields_of item.End = []

abbrev pub kind_of_item : LexItem → Kind
kind_of_item item.Empty = Empty
kind_of_item (item.Header v) = Header
kind_of_item (item.Remark v) = Remark
kind_of_item (item.Atom v) = cond v.hetero Hetatm Atom
kind_of_item (item.Anisou v) = Anisou
kind_of_item (item.Crystal v) = Cryst1
kind_of_item (item.Scale v) = Scale v.row
kind_of_item (item.OrigX v) = Origx v.row
kind_of_item (item.MtriX v) = Mtrix v.row
kind_of_item (item.Model v) = Model
kind_of_item (item.Master v) = Master
kind_of_item (item.Seqres v) = Seqres
kind_of_item (item.Dbref v) = Dbref
kind_of_item (item.Dbref1 v) = Dbref1
kind_of_item (item.Dbref2 v) = Dbref2
kind_of_item (item.Seqadv v) = Seqadv
kind_of_item (item.Modres v) = Modres
kind_of_item (item.SSBond v) = Ssbond
kind_of_item item.EndModel = Endmdl
kind_of_item item.Ter = Ter
kind_of_item item.End = End

-- the atom that a record is, if it is one
abbrev pub atom_in : LexItem → List AtomRecord
atom_in item.Empty = []
atom_in (item.Header v) = []
atom_in (item.Remark v) = []
atom_in (item.Atom v) = v ∷ []
atom_in (item.Anisou v) = []
atom_in (item.Crystal v) = []
atom_in (item.Scale v) = []
atom_in (item.OrigX v) = []
atom_in (item.MtriX v) = []
atom_in (item.Model v) = []
atom_in (item.Master v) = []
atom_in (item.Seqres v) = []
atom_in (item.Dbref v) = []
atom_in (item.Dbref1 v) = []
atom_in (item.Dbref2 v) = []
atom_in (item.Seqadv v) = []
atom_in (item.Modres v) = []
atom_in (item.SSBond v) = []
atom_in item.EndModel = []
atom_in item.Ter = []
atom_in item.End = []
