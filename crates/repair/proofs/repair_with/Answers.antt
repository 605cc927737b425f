-- `repair::repair_with` meets its contract.
-- Assumes nothing.
use mathlib.Core.Path.{refl, sym}
use mathlib.Core.List.{[]}
use native.Mathlib.Omega.{arith}
use lib.Dec.{lit≤}
use lib.Seq.{length-take-le}
use Rattle.repair.proofs.Laws.Repair.{count-few, repairs_over, repairs_mended}
use Rattle.repair.proofs.repair_with.Goals as goal

pub slice_bounds-changes-end : goal.slice_bounds-changes-end
slice_bounds-changes-end c = omega (arith, count-few _ c.args.number _ [] c.requires _ _ _ _ c.in-Ok.ensures _ refl (lit≤ tt))

pub slice_bounds-put_rows-end : goal.slice_bounds-put_rows-end
slice_bounds-put_rows-end c =
    let few = count-few _ c.args.number _ [] c.requires _ _ _ _ c.in-Ok.ensures _ refl (lit≤ tt) in
    sym (length-take-le _ _ (omega (arith, few, c.mend_line.auto.out)))

pub returns-in-Err : goal.returns-in-Err
returns-in-Err c = repairs_over _ c.args.number _ _ c.requires _ _ _ _ c.in-Err.ensures _ _ _ _ _ refl c.put_bytes-n.ensures c.put_over-m.ensures

pub returns-in-Ok : goal.returns-in-Ok
returns-in-Ok c = repairs_mended _ c.args.number _ _ c.requires _ _ _ _ c.in-Ok.ensures _ _ _ refl (lit≤ tt) (omega arith) c.put_rows-m.ensures
