-- `tally::compare::differing` meets its contract: of the two lists.
-- Assumes nothing.
use Rattle.tally.proofs.compare.differing.Goals as goal

pub returns : goal.returns
returns c = simp (c.bits_of.ensures, c.said_by-said.ensures, c.counts_of-counted.ensures)
