-- `account::rows::put_rows` meets its contract. The loop's invariant: with the faults that are left, the page is as all faults leave it.
-- Assumes nothing.
use mathlib.Core.Path.{◌≡◌}
use lib.ListN.{length, drop}
use Rattle.page.specs.Page.{put, page}
use Rattle.account.specs.Account.{fault_rows}
use Rattle.account.proofs.rows.put_rows.Given as goal

abbrev pub invariant-loop-fault : goal.invariant-loop-fault
invariant-loop-fault l =
    (length l.out ≡ length l.initial.out)
    × (put (page l.out l.next) (fault_rows l.kind (drop l.fault-index l.faults)) ≡ put (page l.initial.out l.at) (fault_rows l.kind l.faults))
