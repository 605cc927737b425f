-- `lexitem::bound::bound_of` meets its contract: each arm is what `describe` says of its kind, and the other kinds ask nothing.
-- Assumes nothing.
use borrow.Enum.Refused.{opened}
use Rattle.lexitem.proofs.Laws.Kinds.{asks_nothing}
use Rattle.lexitem.proofs.bound.bound_of.Goals as goal

pub returns-in-Header : goal.returns-in-Header
returns-in-Header c = rw c.in-Header.is

pub returns-in-Remark : goal.returns-in-Remark
returns-in-Remark c = rw c.in-Remark.is

pub returns-in-Cryst1 : goal.returns-in-Cryst1
returns-in-Cryst1 c = rw c.in-Cryst1.is

pub returns-in-Seqadv : goal.returns-in-Seqadv
returns-in-Seqadv c = rw c.in-Seqadv.is

pub returns-in-Modres : goal.returns-in-Modres
returns-in-Modres c = rw c.in-Modres.is

pub returns-in-Ssbond : goal.returns-in-Ssbond
returns-in-Ssbond c = rw c.in-Ssbond.is

pub returns-in_default : goal.returns-in_default
returns-in_default c = asks_nothing c.args.kind (opened c.in_default.in_default-own.keys7)
