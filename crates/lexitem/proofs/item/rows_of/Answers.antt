-- `lexitem::item::rows_of` meets its contract: each arm is a clause of `fields_of`.
-- Assumes nothing.
use mathlib.Core.Path.{refl}
use Rattle.lexitem.proofs.item.rows_of.Goals as goal

pub returns-in-Empty : goal.returns-in-Empty
returns-in-Empty c = rw c.in-Empty.is refl

pub returns-in-Header : goal.returns-in-Header
returns-in-Header c = rw c.in-Header.is c.header_rows.ensures

pub returns-in-Remark : goal.returns-in-Remark
returns-in-Remark c = rw c.in-Remark.is c.remark_rows.ensures

pub returns-in-Atom : goal.returns-in-Atom
returns-in-Atom c = rw c.in-Atom.is c.atom_rows.ensures

pub returns-in-Anisou : goal.returns-in-Anisou
returns-in-Anisou c = rw c.in-Anisou.is c.anisou_rows.ensures

pub returns-in-Crystal : goal.returns-in-Crystal
returns-in-Crystal c = rw c.in-Crystal.is c.crystal_rows.ensures

pub returns-in-Scale : goal.returns-in-Scale
returns-in-Scale c = rw c.in-Scale.is c.numbered_rows.ensures

pub returns-in-OrigX : goal.returns-in-OrigX
returns-in-OrigX c = rw c.in-OrigX.is c.numbered_rows-in-OrigX.ensures

pub returns-in-MtriX : goal.returns-in-MtriX
returns-in-MtriX c = rw c.in-MtriX.is c.mtrix_rows.ensures

pub returns-in-Model : goal.returns-in-Model
returns-in-Model c = rw c.in-Model.is c.model_rows.ensures

pub returns-in-Master : goal.returns-in-Master
returns-in-Master c = rw c.in-Master.is c.master_rows.ensures

pub returns-in-Seqres : goal.returns-in-Seqres
returns-in-Seqres c = rw c.in-Seqres.is c.seqres_rows.ensures

pub returns-in-Dbref : goal.returns-in-Dbref
returns-in-Dbref c = rw c.in-Dbref.is c.dbref_rows.ensures

pub returns-in-Dbref1 : goal.returns-in-Dbref1
returns-in-Dbref1 c = rw c.in-Dbref1.is c.dbref1_rows.ensures

pub returns-in-Dbref2 : goal.returns-in-Dbref2
returns-in-Dbref2 c = rw c.in-Dbref2.is c.dbref2_rows.ensures

pub returns-in-Seqadv : goal.returns-in-Seqadv
returns-in-Seqadv c = rw c.in-Seqadv.is c.seqadv_rows.ensures

pub returns-in-Modres : goal.returns-in-Modres
returns-in-Modres c = rw c.in-Modres.is c.modres_rows.ensures

pub returns-in-SSBond : goal.returns-in-SSBond
returns-in-SSBond c = rw c.in-SSBond.is c.ssbond_rows.ensures

pub returns-in-EndModel : goal.returns-in-EndModel
returns-in-EndModel c = rw c.in-EndModel.is refl

pub returns-in-Ter : goal.returns-in-Ter
returns-in-Ter c = rw c.in-Ter.is refl

pub returns-in-End : goal.returns-in-End
returns-in-End c = rw c.in-End.is refl
