-- `tally::compare::bits_of` meets its contract. The loop's invariant: the bits are those of the places from i on.
-- Assumes nothing.
use Rattle.tally.proofs.Laws.Bits.{Upto}
use Rattle.tally.proofs.compare.bits_of.Given as goal

abbrev pub invariant-loop-i : goal.invariant-loop-i
invariant-loop-i l = Upto l.counted l.said l.i l.bits
