-- `account::text::put_many` meets its contract. The loop's invariant: with the bytes that are left, the page is as all of them leave it.
-- Assumes nothing.
use Prim.Native.Nat.{◌-◌}
use mathlib.Core.Path.{◌≡◌}
use lib.ListN.{length, replicate}
use Rattle.page.specs.Page.{page, put}
use Rattle.account.proofs.text.put_many.Given as goal

abbrev pub invariant-loop : goal.invariant-loop
invariant-loop l =
    (length l.out ≡ length l.initial.out)
    × (put (page l.out l.next) (replicate (l.n - l.counter) l.b) ≡ put (page l.initial.out l.at) (replicate l.n l.b))
