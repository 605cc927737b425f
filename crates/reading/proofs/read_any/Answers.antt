-- `reading::read_any` meets its contract, by the outcome of the line, by the rooms and by whether there is a fault.
-- Assumes nothing.
use mathlib.Core.Path.{◌∙◌}
use native.Mathlib.Omega.{arith}
use lib.ListN.{length}
use Rattle.packing.proofs.Laws.Packed.{packed-small}
use Rattle.reading.proofs.Laws.Read.{small, few-faults, room-enough, reads-refused, reads-few, reads_none, reads_all}
use Rattle.reading.proofs.read_any.Goals as goal

pub returns-then-few-ne0 : goal.returns-then-few-ne0
returns-then-few-ne0 c = reads-few _ _ _ _ _ _ c.answer_of-answer.ensures _ c.in-Ok.is _ c.room_refusal-few.ensures c.if-few-ne0.true

pub bounds-faults-0 : goal.bounds-faults-0
bounds-faults-0 c =
    let a = c.args in
    let room = room-enough (length a.fields.now) (length a.faults.now) _ c.room_refusal-few.ensures c.if-few-ne0.false in
    omega (arith, room.1)

pub returns-then-answer-eq0 : goal.returns-then-answer-eq0
returns-then-answer-eq0 c =
    let a = c.args in
    let room = room-enough (length a.fields.now) (length a.faults.now) _ c.room_refusal-few.ensures c.if-few-ne0.false in
    let said = c.answer_of-answer.ensures in
    let accepted = c.in-Ok.is in
    reads_none _ _ _ _ _ _ said _ accepted _ room.0 room.1 c.put_fields.ensures c.if-answer-eq0.true (few-faults _ _ _ _ said accepted).1

pub put_faults-requires : goal.put_faults-requires
put_faults-requires c =
    let a = c.args in
    let room = room-enough (length a.fields.now) (length a.faults.now) _ c.room_refusal-few.ensures c.if-few-ne0.false in
    let few = few-faults _ _ _ _ c.answer_of-answer.ensures c.in-Ok.is in
    (room.1, few.0, few.1)

pub returns-in-Err : goal.returns-in-Err
returns-in-Err c =
    let said = c.answer_of-answer.ensures in
    let refused = c.in-Err.is in
    reads-refused _ _ _ _ _ _ said _ _ refused (c.packed.ensures ∙ packed-small _ (small _ _ _ _ said refused))

pub returns-else-answer-eq0 : goal.returns-else-answer-eq0
returns-else-answer-eq0 c =
    let a = c.args in
    let room = room-enough (length a.fields.now) (length a.faults.now) _ c.room_refusal-few.ensures c.if-few-ne0.false in
    let said = c.answer_of-answer.ensures in
    let accepted = c.in-Ok.is in
    reads_all _ _ _ _ _ _ said _ accepted _ room.0 room.1 c.put_fields.ensures _ c.put_faults.ensures
