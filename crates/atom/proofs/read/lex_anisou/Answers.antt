-- `atom::read::lex_anisou` meets its contract: each value is its reader's, and the faults go on in the order of the table.
-- Assumes nothing.
use Rattle.atom.proofs.read.lex_anisou.Goals as goal

pub returns : goal.returns
returns c =
    simp (
      c.none.ensures,
      c.lex_factors-factors.ensures,
      c.lex_atom_basics-basics.ensures,
      c.new.ensures,
    )
