-- `mend::mend_line` meets its contract.
-- Assumes nothing.
use native.Mathlib.Omega.{arith}
use Rattle.mend.proofs.Laws.Answers.{refused, room_for, done}
use Rattle.mend.proofs.mend_line.Goals as goal

pub returns-in-Some : goal.returns-in-Some
returns-in-Some c = refused _ _ _ _ c.in-Some.ensures

pub put_mended-requires : goal.put_mended-requires
put_mended-requires c = (c.padding-pad.ensures, (room_for _ _ c.in_default.ensures _ c.padding-pad.ensures).1)

pub note_changes-count-requires : goal.note_changes-count-requires
note_changes-count-requires c = (c.padding-pad.ensures, (room_for _ _ c.in_default.ensures _ c.padding-pad.ensures).0)

pub overflow_add-result : goal.overflow_add-result
overflow_add-result c =
    let size = (room_for _ _ c.in_default.ensures _ c.padding-pad.ensures).1 in
    omega arith

pub returns : goal.returns
returns c = done _ _ _ c.in_default.ensures _ c.padding-pad.ensures _ _ _ c.put_mended.ensures c.note_changes-count.ensures
