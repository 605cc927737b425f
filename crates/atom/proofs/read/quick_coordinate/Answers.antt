-- `atom::read::quick_coordinate` meets its contract: its columns, read as a word, say what they say by any reading.
-- Assumes nothing.
use Rattle.std.proofs.Common.{rules, ◌∙◌, false}
use Rattle.field.specs.Number.{fine_real}
use Rattle.field.proofs.Laws.Quick.{eight_fine, or-is}
use Rattle.atom.proofs.read.quick_coordinate.Goals as goal

pub returns : goal.returns
returns c =
    let l = c.args.line.now in
    let p = c.args.at in
    or-is c.coded.result (fine_real false l p) _ (λ q. search rules) c.or_else.ensures
    ∙ rw c.coded.ensures (eight_fine l p c.part.ensures c.read_word.ensures c.eight.ensures)
