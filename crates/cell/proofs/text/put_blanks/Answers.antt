-- `cell::text::put_blanks` meets its contract. The loop's invariant: with the blanks that are left, the page is as all blanks leave it.
-- Assumes nothing.
use Prim.Native.Nat.{◌+◌, ◌-◌}
use mathlib.Core.Path.{◌≡◌}
use native.Mathlib.Omega.{arith}
use Rattle.cell.proofs.Laws.Put.{blanks-next, blanks-done}
use Rattle.cell.proofs.text.put_blanks.Goals as goal

pub loop-i-preserved : goal.loop-i-preserved
loop-i-preserved c =
    let l = c.loop-i in
    let one : c.args.n - l.i - 1 ≡ c.args.n - (l.i + 1) = omega arith in
    rw one at (blanks-next (c.args.n - l.i) _ _ _ (omega arith) c.put_byte-next.ensures l.invariant)

pub returns : goal.returns
returns c = blanks-done (c.args.n - c.loop-i.i) _ _ (omega arith) c.loop-i.invariant
