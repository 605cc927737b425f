-- `layout::places::put_places` meets its contract. The loop's invariant: with the rows that are left, the page is as all rows leave it.
-- Assumes nothing.
use mathlib.Core.Path.{◌≡◌}
use lib.ListN.{length, drop}
use Rattle.layout.specs.Places.{places_of}
use Rattle.page.specs.Page.{put, page}
use Rattle.layout.proofs.places.put_places.Given as goal

abbrev pub invariant-loop-row : goal.invariant-loop-row
invariant-loop-row l = (length l.out ≡ length l.initial.out) × (put (page l.out l.next) (places_of (drop l.row-index l.fn.rows)) ≡ put (page l.initial.out l.at) (places_of l.fn.rows))
