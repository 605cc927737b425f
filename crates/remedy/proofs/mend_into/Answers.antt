-- `remedy::mend_into` meets its contract.
-- Assumes nothing.
use mathlib.Core.Path.{refl, ◌∙◌}
use native.Mathlib.Omega.{arith}
use lib.ListN.{length-set}
use Rattle.packing.proofs.Laws.Packed.{packed-small}
use Rattle.remedy.proofs.Laws.Mend.{lacking_small, refused-small, mends_few, mends_refused, mends_done}
use Rattle.remedy.proofs.mend_into.Goals as goal

pub returns-then-changes-lt-ENOUGH : goal.returns-then-changes-lt-ENOUGH
returns-then-changes-lt-ENOUGH c = mends_few _ _ _ _ _ (omega (arith, c.if-changes-lt-ENOUGH.true)) c.lacking.ensures (c.packed.ensures ∙ packed-small _ (lacking_small _ _ _ c.lacking.ensures))

pub bounds-changes-1 : goal.bounds-changes-1
bounds-changes-1 c =
    let same = c.mend_behind.auto.out in
    omega (arith, length-set c.mend_behind.new.changes 0 c.in-Ok.mended.size, c.if-changes-lt-ENOUGH.false)

pub returns-in-Err : goal.returns-in-Err
returns-in-Err c =
    let done = c.in-Err.ensures in
    mends_refused _ _ c.args.changes.now _ c.mend_behind.new.changes _ (omega (arith, c.if-changes-lt-ENOUGH.false)) done.0 done.1 _ _ refl
    (c.packed-in-Err.ensures ∙ packed-small _ (refused-small _ _ _ _ _ _ done.0))

pub returns-in-Ok : goal.returns-in-Ok
returns-in-Ok c =
    let done = c.in-Ok.ensures in
    mends_done _ _ c.args.changes.now _ c.mend_behind.new.changes _ (omega (arith, c.if-changes-lt-ENOUGH.false)) done.0 done.1 _ _ refl refl
