-- `listing::put_listing` meets its contract: the calls put the parts of `listing_of` one behind the other.
-- Assumes nothing.
use native.Mathlib.Omega.{arith}
use lib.Seq.{length-take-le}
use Rattle.listing.specs.Listing.{listing_of}
use Rattle.page.proofs.Laws.Page.{put_then}
use Rattle.listing.proofs.Laws.Rows.{fields-padded}
use Rattle.listing.proofs.put_listing.Goals as goal

pub put_faults-requires : goal.put_faults-requires
put_faults-requires c = c.requires

pub returns : goal.returns
unfolding listing_of
returns c =
    let many = c.well_formed in
    let count = length-take-le c.args.faults.count c.args.faults.list (omega arith) in
    let rows = rw (c.rows_of-rows.ensures, fields-padded) at c.put_rows-total.ensures in
    rw count
    (put_then _ _ _ _ _ (put_then _ _ _ _ _ (put_then _ _ _ _ _ c.put_name-fields.ensures rows)
    c.put_number-each.ensures)
    c.put_faults.ensures)
