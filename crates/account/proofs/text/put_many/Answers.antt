-- `account::text::put_many` meets its contract. The loop's invariant: with the bytes that are left, the page is as all of them leave it.
-- Assumes nothing.
use Prim.Native.Nat.{◌+◌, ◌-◌}
use mathlib.Core.Path.{◌≡◌}
use native.Mathlib.Omega.{arith}
use borrow.Author.Rules.{rules}
use Rattle.account.proofs.Laws.Loops.{many-next, many-done}
use Rattle.account.proofs.text.put_many.Goals as goal

pub loop-preserved : goal.loop-preserved
loop-preserved c =
    let l = c.loop in
    let n = c.args.n in
    let less : n - (l.counter + 1) ≡ n - l.counter - 1 = omega arith in
    (search rules, rw less (many-next _ _ _ _ (n - l.counter) (omega arith) c.put_byte-next.ensures l.invariant.1))

pub returns : goal.returns
returns c = many-done _ _ _ (c.args.n - c.loop.counter) (omega arith) c.loop.invariant.1
