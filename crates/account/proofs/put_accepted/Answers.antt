-- `account::put_accepted` meets its contract: a list has no more faults than it has room for.
-- Assumes nothing.
use native.Mathlib.Omega.{arith}
use Rattle.lexitem.proofs.Laws.Fault.{told_in}
use Rattle.account.proofs.Laws.Parts.{counted_none, counted-some}
use Rattle.account.proofs.put_accepted.Goals as goal

pub returns-then-faults-eq0 : goal.returns-then-faults-eq0
returns-then-faults-eq0 c = rw (told_in c.args.faults) (counted_none _ _ _ _ _ _ c.if-faults-eq0.true)

pub returns : goal.returns
returns c =
    let room = c.well_formed in
    let fs = c.args.faults in
    rw (told_in fs) (counted-some _ _ _ fs.list _ _ (omega arith) c.if-faults-eq0.false _ c.min-count.ensures _ c.put_faulty.ensures)
