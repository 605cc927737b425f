-- `atom::read::quick_serial` meets its contract: its columns, read as a word, say what they say by any reading.
-- Assumes nothing.
use Rattle.std.proofs.Common.{rules, ◌∙◌}
use Rattle.field.specs.Number.{fine_unsigned}
use Rattle.field.proofs.Laws.Quick.{five_fine, or-is}
use Rattle.atom.specs.Atom.{Field, at}
use Rattle.atom.proofs.read.quick_serial.Goals as goal

pub returns : goal.returns
returns c =
    let l = c.args.line.now in
    let p = at Field.serial in
    or-is c.unsigned_five.result (fine_unsigned l p) _ (λ q. search rules) c.or_else.ensures
    ∙ rw c.unsigned_five.ensures (five_fine l p c.part.ensures c.read_word.ensures c.five.ensures)
