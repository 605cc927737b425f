-- `wording::atom_fields::put_name` meets its contract: the words of three rows, one after the other.
-- Assumes nothing.
use Rattle.wording.specs.Fields.{row_words}
use Rattle.wording.proofs.Laws.Words.{puts-last, puts-row}
use Rattle.wording.proofs.atom_fields.put_name.Goals as goal

pub returns : goal.returns
unfolding row_words
returns c =
    let first = rw c.head_word.ensures at c.put_two-second.ensures in
    let second = rw (c.head_word-2.ensures, c.text_word.ensures) at c.put_two-third.ensures in
    puts-row _ _ _ first (puts-row _ _ _ second (puts-last _ _ c.put_character.ensures))
