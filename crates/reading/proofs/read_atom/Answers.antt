-- `reading::read_atom` meets its contract: with what was read of the atom the answer is the line's.
-- Assumes nothing.
use mathlib.Core.Path.{refl, sym}
use native.Mathlib.Omega.{arith}
use lib.ListN.{length}
use Rattle.lexitem.specs.Fault.{stamped_as}
use Rattle.packing.specs.Options.{input_of}
use Rattle.reading.proofs.Laws.Read.{few-faults, room-enough, reads-few, reads_none, reads_all, atom-from}
use Rattle.reading.proofs.read_atom.Goals as goal

pub returns-then-few-ne0 : goal.returns-then-few-ne0
returns-then-few-ne0 c = reads-few _ _ _ _ _ _ (sym c.requires) _ refl _ c.room_refusal-few.ensures c.if-few-ne0.true

pub bounds-faults-0 : goal.bounds-faults-0
bounds-faults-0 c =
    let a = c.args in
    let room = room-enough (length a.fields.now) (length a.faults.now) _ c.room_refusal-few.ensures c.if-few-ne0.false in
    omega (arith, room.1)

pub returns-then-got-eq0 : goal.returns-then-got-eq0
unfolding stamped_as
returns-then-got-eq0 c =
    let a = c.args in
    let room = room-enough (length a.fields.now) (length a.faults.now) _ c.room_refusal-few.ensures c.if-few-ne0.false in
    let so = atom-from (input_of a.line.now a.number a.options a.remarks.now) 4294967295 a.hetero _ _ c.lex_atom-got.ensures c.options_of-on.ensures c.requires in
    reads_none _ _ _ _ _ _ so _ refl _ room.0 room.1 c.put_atom_fields.ensures c.if-got-eq0.true (few-faults _ _ _ _ so refl).1

pub put_faults-requires : goal.put_faults-requires
put_faults-requires c =
    let a = c.args in
    let room = room-enough (length a.fields.now) (length a.faults.now) _ c.room_refusal-few.ensures c.if-few-ne0.false in
    let so = atom-from (input_of a.line.now a.number a.options a.remarks.now) 4294967295 a.hetero _ _ c.lex_atom-got.ensures c.options_of-on.ensures c.requires in
    let few = few-faults _ _ _ _ so refl in
    rw (c.of.ensures, c.atom_kind.ensures) (room.1, few.0, few.1)

pub returns : goal.returns
returns c =
    let a = c.args in
    let room = room-enough (length a.fields.now) (length a.faults.now) _ c.room_refusal-few.ensures c.if-few-ne0.false in
    let so = atom-from (input_of a.line.now a.number a.options a.remarks.now) 4294967295 a.hetero _ _ c.lex_atom-got.ensures c.options_of-on.ensures c.requires in
    reads_all _ _ _ _ _ _ so _ refl _ room.0 room.1 c.put_atom_fields.ensures _ (rw (c.of.ensures, c.atom_kind.ensures) at c.put_faults.ensures)
