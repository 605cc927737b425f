-- `atom::read::lex_position` meets its contract: each value is its reader's, and the faults go on in the order of the table.
-- Assumes nothing.
use lib.Ieee.{of_bits}
use Rattle.atom.proofs.read.lex_position.Goals as goal

pub returns : goal.returns
unfolding of_bits
returns c =
    simp (
      c.real-x.ensures,
      c.real-y.ensures,
      c.real-z.ensures,
      c.placed_of.ensures,
    )
