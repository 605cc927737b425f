-- `listing::fit` meets its contract: what measures too long leaves the lent bytes, and what doesn't is put on them, as is what needn't be measured.
-- Assumes nothing.
use mathlib.Core.Path.{sym, ◌∙◌}
use Prim.Native.Nat.{◌≤◌}
use native.Mathlib.Omega.{arith}
use lib.ListN.{take, length}
use Rattle.listing.specs.Listing.{listing_of}
use Rattle.listing.proofs.Laws.Fitted.{fitted_yes, fits}
use Rattle.listing.proofs.fit.Goals as goal
use Rattle.listing.proofs.fit.Goals.{then-out-lt-LONGEST+in_ok-measure, else-out-lt-LONGEST}

pub returns : goal.returns
returns c =
    let room = c.well_formed in
    let a = c.args in
    let listing = listing_of a.number a.line.now a.item (take a.faults.count a.faults.list) in
    let short = c.requires.1 in
    let fit : length listing ≤ length a.out.now =
    elim c.if-out-lt-LONGEST.branch [
      | then-out-lt-LONGEST+in_ok-measure w ↦ fits a.out.now listing _ (sym w.in_ok-measure.was ∙ w.measure.ensures)
      | else-out-lt-LONGEST w ↦ omega arith
    ] in
    fitted_yes a.out.now listing fit (omega arith) _ _ c.put_listing.ensures
