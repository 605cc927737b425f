-- `wording::atom_fields::put_end` meets its contract: the words of three rows, one after the other.
-- Assumes nothing.
use mathlib.Core.List.{[]}
use mir.Facts.{to_z-of_z}
use Rattle.wording.specs.Fields.{row_words}
use Rattle.wording.proofs.Laws.Words.{puts-last, puts-row}
use Rattle.wording.proofs.atom_fields.put_end.Goals as goal

pub returns : goal.returns
unfolding row_words
returns c =
    let charge = to_z-of_z c.ranges.charge in
    let first = rw (c.head_word.ensures, c.text_word.ensures) at c.put_two-second.ensures in
    let second = rw (c.head_word-2.ensures, c.text_word-2.ensures) at c.put_two-third.ensures in
    let third = rw (c.head_word-3.ensures, c.signed_word.ensures, charge) at c.put_two.ensures in
    puts-row [] _ _ first (puts-row [] _ _ second (puts-last [] _ third))
