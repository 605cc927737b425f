-- `listing::fault::put_faults` meets its contract. The loop's invariant: with the faults that are left, the page is as all faults leave it.
-- Assumes nothing.
use mathlib.Core.Path.{◌≡◌}
use lib.ListN.{length, drop}
use Rattle.layout.specs.Fault.{faults_bytes}
use Rattle.page.specs.Page.{put, page}
use Rattle.listing.proofs.fault.put_faults.Given as goal

abbrev pub invariant-loop-fault : goal.invariant-loop-fault
invariant-loop-fault l =
    (length l.out ≡ length l.initial.out)
    × (put (page l.out l.next) (faults_bytes (drop l.fault-index l.fault-items)) ≡ put (page l.initial.out l.at) (faults_bytes l.fault-items))
