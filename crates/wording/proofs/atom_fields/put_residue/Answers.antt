-- `wording::atom_fields::put_residue` meets its contract: the words of four rows, one after the other.
-- Assumes nothing.
use mir.Facts.{to_z-of_z}
use native.Mathlib.Omega.{arith}
use Rattle.wording.specs.Fields.{row_words}
use Rattle.wording.proofs.Laws.Words.{puts-last, puts-row, character_two}
use Rattle.wording.proofs.atom_fields.put_residue.Goals as goal

pub put_two-fourth-requires : goal.put_two-fourth-requires
put_two-fourth-requires c =
    let few = character_two c.args.line.now 21 c.args.chain in
    let first = c.put_two-second in
    let second = c.put_character-third in
    omega (arith, few, first.ensures.behind, first.auto.out, second.ensures.behind, second.auto.out, c.requires)

pub put_character-requires : goal.put_character-requires
put_character-requires c =
    let few = character_two c.args.line.now 21 c.args.chain in
    let first = c.put_two-second in
    let second = c.put_character-third in
    let third = c.put_two-fourth in
    omega (arith, few, first.ensures.behind, first.auto.out, second.ensures.behind, second.auto.out, third.ensures.behind, third.auto.out, c.requires)

pub returns : goal.returns
unfolding row_words
returns c =
    let number = to_z-of_z c.ranges.number in
    let first = rw (c.head_word.ensures, c.text_word.ensures) at c.put_two-second.ensures in
    let third = rw (c.head_word-2.ensures, c.signed_word.ensures, number) at c.put_two-fourth.ensures in
    puts-row _ _ _ first (puts-row _ _ _ c.put_character-third.ensures (puts-row _ _ _ third (puts-last _ _ c.put_character.ensures)))
