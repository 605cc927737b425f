-- `ledger::summary::put_group_rows` meets its contract. The loop's invariant: with the rows that are left, the page is as all rows leave it.
-- Assumes nothing.
use Prim.Native.Nat.{◌-◌}
use mathlib.Core.Path.{◌≡◌}
use lib.ListN.{length}
use Rattle.ledger.specs.Summary.{group_rows}
use Rattle.page.specs.Page.{page, put}
use Rattle.ledger.proofs.summary.put_group_rows.Given as goal

abbrev pub invariant-loop-g : goal.invariant-loop-g
invariant-loop-g l =
    (length l.out ≡ length l.initial.out) × (put (page l.out l.next) (group_rows l.ledger l.g (20 - l.g)) ≡ put (page l.initial.out l.at) (group_rows l.ledger 0 20))
