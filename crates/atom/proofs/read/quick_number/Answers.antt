-- `atom::read::quick_number` meets its contract: its columns, read as a word, say what they say by any reading.
-- Assumes nothing.
use Rattle.std.proofs.Common.{rules, ◌∙◌}
use Rattle.field.specs.Number.{fine_signed}
use Rattle.field.proofs.Laws.Quick.{four-fine, or-is}
use Rattle.atom.specs.Atom.{Field, at}
use Rattle.atom.proofs.read.quick_number.Goals as goal

pub returns : goal.returns
returns c =
    let l = c.args.line.now in
    let p = at Field.number in
    or-is c.signed_four.result (fine_signed l p) _ (λ q. search rules) c.or_else.ensures
    ∙ rw c.signed_four.ensures (four-fine l p c.part.ensures c.read_word.ensures c.four.ensures)
