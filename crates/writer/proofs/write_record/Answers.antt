-- `writer::write_record` meets its contract, an arm for each kind.
-- Assumes nothing.
use Rattle.writer.proofs.Laws.Another.{another}
use Rattle.writer.proofs.write_record.Goals as goal

pub returns-in-Empty : goal.returns-in-Empty
returns-in-Empty c = rw c.in-Empty.is (another _)

pub returns-in-Header : goal.returns-in-Header
returns-in-Header c = rw c.in-Header.is (another _)

pub returns-in-Remark : goal.returns-in-Remark
returns-in-Remark c = rw c.in-Remark.is (another _)

pub returns-in-Atom : goal.returns-in-Atom
returns-in-Atom c = rw c.in-Atom.is c.write_atom_record.ensures

pub returns-in-Anisou : goal.returns-in-Anisou
returns-in-Anisou c = rw c.in-Anisou.is c.write_anisou_record.ensures

pub returns-in-Crystal : goal.returns-in-Crystal
returns-in-Crystal c = rw c.in-Crystal.is c.write_crystal_record.ensures

pub returns-in-Scale : goal.returns-in-Scale
returns-in-Scale c = rw c.in-Scale.is c.write_scale.ensures

pub returns-in-OrigX : goal.returns-in-OrigX
returns-in-OrigX c = rw c.in-OrigX.is c.write_origx.ensures

pub returns-in-MtriX : goal.returns-in-MtriX
returns-in-MtriX c = rw c.in-MtriX.is c.write_mtrix.ensures

pub returns-in-Model : goal.returns-in-Model
returns-in-Model c = rw c.in-Model.is c.write_model.ensures

pub returns-in-Master : goal.returns-in-Master
returns-in-Master c = rw c.in-Master.is (another _)

pub returns-in-Seqres : goal.returns-in-Seqres
returns-in-Seqres c = rw c.in-Seqres.is (another _)

pub returns-in-Dbref : goal.returns-in-Dbref
returns-in-Dbref c = rw c.in-Dbref.is (another _)

pub returns-in-Dbref1 : goal.returns-in-Dbref1
returns-in-Dbref1 c = rw c.in-Dbref1.is (another _)

pub returns-in-Dbref2 : goal.returns-in-Dbref2
returns-in-Dbref2 c = rw c.in-Dbref2.is (another _)

pub returns-in-Seqadv : goal.returns-in-Seqadv
returns-in-Seqadv c = rw c.in-Seqadv.is (another _)

pub returns-in-Modres : goal.returns-in-Modres
returns-in-Modres c = rw c.in-Modres.is (another _)

pub returns-in-SSBond : goal.returns-in-SSBond
returns-in-SSBond c = rw c.in-SSBond.is (another _)

pub returns-in-EndModel : goal.returns-in-EndModel
returns-in-EndModel c = rw c.in-EndModel.is c.write_bare.ensures

pub returns-in-Ter : goal.returns-in-Ter
returns-in-Ter c = rw c.in-Ter.is c.write_bare-in-Ter.ensures

pub returns-in-End : goal.returns-in-End
returns-in-End c = rw c.in-End.is c.write_bare-in-End.ensures
