-- `lexitem::item::LexItem::kind` meets its contract: each arm is a clause of `kind_of_item`.
-- Assumes nothing.
use mathlib.Core.Path.{refl}
use Rattle.lexitem.proofs.item.LexItem.kind.Goals as goal

pub returns-then-atom : goal.returns-then-atom
returns-then-atom c = rw (c.in-Atom.is, c.if-atom.true) refl

pub returns-in-Empty : goal.returns-in-Empty
returns-in-Empty c = rw c.in-Empty.is refl

pub returns-in-Header : goal.returns-in-Header
returns-in-Header c = rw c.in-Header.is refl

pub returns-in-Remark : goal.returns-in-Remark
returns-in-Remark c = rw c.in-Remark.is refl

pub returns-else-atom : goal.returns-else-atom
returns-else-atom c = rw (c.in-Atom.is, c.if-atom.false) refl

pub returns-in-Anisou : goal.returns-in-Anisou
returns-in-Anisou c = rw c.in-Anisou.is refl

pub returns-in-Crystal : goal.returns-in-Crystal
returns-in-Crystal c = rw c.in-Crystal.is refl

pub returns-in-Scale : goal.returns-in-Scale
returns-in-Scale c = rw c.in-Scale.is refl

pub returns-in-OrigX : goal.returns-in-OrigX
returns-in-OrigX c = rw c.in-OrigX.is refl

pub returns-in-MtriX : goal.returns-in-MtriX
returns-in-MtriX c = rw c.in-MtriX.is refl

pub returns-in-Model : goal.returns-in-Model
returns-in-Model c = rw c.in-Model.is refl

pub returns-in-Master : goal.returns-in-Master
returns-in-Master c = rw c.in-Master.is refl

pub returns-in-Seqres : goal.returns-in-Seqres
returns-in-Seqres c = rw c.in-Seqres.is refl

pub returns-in-Dbref : goal.returns-in-Dbref
returns-in-Dbref c = rw c.in-Dbref.is refl

pub returns-in-Dbref1 : goal.returns-in-Dbref1
returns-in-Dbref1 c = rw c.in-Dbref1.is refl

pub returns-in-Dbref2 : goal.returns-in-Dbref2
returns-in-Dbref2 c = rw c.in-Dbref2.is refl

pub returns-in-Seqadv : goal.returns-in-Seqadv
returns-in-Seqadv c = rw c.in-Seqadv.is refl

pub returns-in-Modres : goal.returns-in-Modres
returns-in-Modres c = rw c.in-Modres.is refl

pub returns-in-SSBond : goal.returns-in-SSBond
returns-in-SSBond c = rw c.in-SSBond.is refl

pub returns-in-EndModel : goal.returns-in-EndModel
returns-in-EndModel c = rw c.in-EndModel.is refl

pub returns-in-Ter : goal.returns-in-Ter
returns-in-Ter c = rw c.in-Ter.is refl

pub returns-in-End : goal.returns-in-End
returns-in-End c = rw c.in-End.is refl
