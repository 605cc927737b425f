-- `audit::see::with_master` meets its contract: it goes by the MASTER lines before.
-- Assumes nothing.
use mathlib.Core.Path.{refl}
use Rattle.audit.proofs.see.with_master.Goals as goal

pub returns-in-Missing : goal.returns-in-Missing
returns-in-Missing c = rw c.in-Missing.is c.first_master.ensures

pub returns-in-Several : goal.returns-in-Several
returns-in-Several c = rw c.in-Several.is refl

pub returns-in-Unread : goal.returns-in-Unread
returns-in-Unread c = rw c.in-Unread.is refl

pub returns-in-Numbers : goal.returns-in-Numbers
returns-in-Numbers c = rw c.in-Numbers.is refl
