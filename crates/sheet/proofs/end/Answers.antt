-- `sheet::end` meets its contract: what was copied is what putting the line would leave.
-- Assumes nothing.
use mathlib.Core.Path.{refl}
use native.Mathlib.Omega.{arith}
use Rattle.sheet.proofs.Laws.Draft.{ends-line}
use Rattle.sheet.proofs.end.Goals as goal

pub returns : goal.returns
returns c =
    let short = c.well_formed in
    rw c.in_default.is
    (ends-line c.args.out.now c.args.line.now _ c.min-most.result (omega arith) (omega arith) c.min-most.ensures
    (rw c.copy_from_slice.ensures.after refl))
