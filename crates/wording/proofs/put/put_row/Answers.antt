-- `wording::putput_row` meets its contract: each arm is a clause of `value_words`.
-- Assumes nothing.
use mir.Syntax.{w64}
use mir.Facts.{to_z-of_z}
use Rattle.wording.specs.Fields.{row_words}
use Rattle.wording.proofs.Laws.Words.{puts_none}
use Rattle.wording.proofs.put.put_row.Goals as goal

pub returns-in-Unsigned : goal.returns-in-Unsigned
unfolding row_words
returns-in-Unsigned c =
    rw c.in-Unsigned.is
    (rw c.head_word.ensures at c.put_two.ensures)

pub returns-in-Signed : goal.returns-in-Signed
unfolding row_words
returns-in-Signed c =
    let n = c.in-Signed.n in
    let back = to_z-of_z {w = w64} {z = n} (record { sfits = c.in-Signed.known_told-in-Signed-1-own.given.0.1 }) in
    rw c.in-Signed.is
    (rw (c.head_word-in-Signed.ensures, c.signed_word.ensures, back) at c.put_two-in-Signed.ensures)

pub returns-in-Real : goal.returns-in-Real
unfolding row_words
returns-in-Real c =
    rw c.in-Real.is
    (rw (c.head_word-in-Real.ensures, c.bits_of.ensures) at c.put_two-in-Real.ensures)

pub returns-in-Factor : goal.returns-in-Factor
unfolding row_words
returns-in-Factor c =
    rw c.in-Factor.is
    (rw (c.head_word-in-Factor.ensures, c.bits_of-in-Factor.ensures) at c.put_two-in-Factor.ensures)

pub returns-in-Words : goal.returns-in-Words
unfolding row_words
returns-in-Words c =
    rw c.in-Words.is
    (rw (c.head_word-in-Words.ensures, c.text_word.ensures) at c.put_two-in-Words.ensures)

pub returns-in-One : goal.returns-in-One
unfolding row_words
returns-in-One c = rw c.in-One.is c.put_character.ensures

pub returns-in-Flag : goal.returns-in-Flag
unfolding row_words
returns-in-Flag c =
    rw c.in-Flag.is
    (rw (c.head_word-in-Flag.ensures, c.flag_word.ensures) at c.put_two-in-Flag.ensures)

pub returns-in-Nothing : goal.returns-in-Nothing
unfolding row_words
returns-in-Nothing c = rw c.in-Nothing.is (puts_none _ _)
