-- `tally::counted` meets its contract: one line more, by the number that counts it.
-- Assumes nothing.
use Rattle.tally.specs.Tally.{counted}
use Rattle.tally.proofs.counted.Goals as goal

pub returns : goal.returns
unfolding counted
returns c = simp (c.with_number.ensures, c.number_of.ensures)
