-- `atom::read::lex_factors` meets its contract: each value is its reader's, and the faults go on in the order of the table.
-- Assumes nothing.
use Rattle.atom.proofs.read.lex_factors.Goals as goal

pub returns : goal.returns
returns c =
    simp (
      c.factor-u11.ensures,
      c.factor-u22.ensures,
      c.factor-u33.ensures,
      c.factor-u12.ensures,
      c.factor-u13.ensures,
      c.factor-u23.ensures,
      c.new.ensures,
    )
