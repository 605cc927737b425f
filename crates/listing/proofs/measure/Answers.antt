-- `listing::measure` meets its contract: the call on one byte counts the listing's bytes.
-- Assumes nothing.
use native.Mathlib.Omega.{arith}
use Rattle.listing.proofs.Laws.Fitted.{measured-no, measured_yes}
use Rattle.listing.proofs.measure.Goals as goal

pub returns-then-room-needed : goal.returns-then-room-needed
returns-then-room-needed c =
    rw c.new.ensures
    (measured-no c.args.room _ c.requires.1 _ _ _ c.put_listing-needed.ensures (omega arith))

pub returns : goal.returns
returns c = measured_yes c.args.room _ c.requires.1 _ _ _ c.put_listing-needed.ensures (omega arith)
