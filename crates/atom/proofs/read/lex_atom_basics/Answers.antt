-- `atom::read::lex_atom_basics` meets its contract: each value is its reader's, and the faults go on in the order of the table.
-- Assumes nothing.
use Rattle.field.proofs.Laws.Fields.{signed-held, charge-held}
use Rattle.atom.proofs.read.lex_atom_basics.Goals as goal

pub returns : goal.returns
returns c =
    simp (
      c.unsigned-serial.ensures,
      c.text-name.ensures,
      c.optional-alternate.ensures,
      c.text-residue.ensures,
      c.character-chain.ensures,
      c.signed-number.ensures,
      c.optional-insertion.ensures,
      c.text-segment.ensures,
      c.text-element.ensures,
      c.charge-charge.ensures,
      c.new-value.ensures,
      signed-held,
      charge-held,
    )
