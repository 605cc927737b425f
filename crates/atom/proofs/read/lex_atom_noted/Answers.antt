-- `atom::read::lex_atom_noted` meets its contract: each value is its reader's, and the faults go on in the order of the table.
-- Assumes nothing.
use mathlib.Core.Path.{◌≡◌}
use lib.Ieee.{of_bits}
use Rattle.field.specs.Number.{got_real, zero_real, one_real}
use Rattle.atom.specs.Atom.{at}
use Rattle.atom.specs.Atom.Field.{occupancy, bfactor}
use Rattle.atom.proofs.read.lex_atom_noted.Goals as goal

pub returns : goal.returns
unfolding of_bits
returns c =
    let args = c.args in
    let read = got_real args.exponents args.line.now in
    let position = c.lex_position-position in
    let o = c.real-occupancy in
    let b = c.real-bfactor in
    let share : o.result ≡ read (at occupancy) one_real position.result.faults = o.ensures in
    let factor : b.result ≡ read (at bfactor) zero_real o.result.faults = b.ensures in
    simp (
      c.none.ensures,
      position.ensures,
      share,
      factor,
      c.lex_atom_basics-basics.ensures,
      c.atom_of.ensures,
    )
