-- `wording::putput_character` meets its contract.
-- Assumes nothing.
use Rattle.wording.proofs.Laws.Words.{puts_none}
use Rattle.wording.proofs.put.put_character.Goals as goal

pub returns-in-At : goal.returns-in-At
returns-in-At c =
    rw c.in-At.is
    (rw (c.head_word.ensures, c.byte_at.ensures) at c.put_two.ensures)

pub returns-in-Unreached : goal.returns-in-Unreached
returns-in-Unreached c =
    rw c.in-Unreached.is
    (rw c.head_word-in-Unreached.ensures at c.put_two-in-Unreached.ensures)

pub returns-in-Absent : goal.returns-in-Absent
returns-in-Absent c = rw c.in-Absent.is (puts_none _ _)
