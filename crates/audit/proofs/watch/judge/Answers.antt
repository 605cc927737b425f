-- `audit::watch::judge` meets its contract: it goes by the MASTER lines.
-- Assumes nothing.
use Rattle.audit.proofs.watch.judge.Goals as goal

pub returns-in-Missing : goal.returns-in-Missing
returns-in-Missing c = rw c.in-Missing.is c.refuse.ensures

pub returns-in-Unread : goal.returns-in-Unread
returns-in-Unread c = rw c.in-Unread.is c.refuse-in-Unread.ensures

pub returns-in-Several : goal.returns-in-Several
returns-in-Several c = rw c.in-Several.is c.refuse-in-Several.ensures

pub returns-in-Numbers : goal.returns-in-Numbers
returns-in-Numbers c = simp c.in-Numbers.is
