-- `wording::put_atom_fields` meets its contract, as `put_record` does: an atom's words are those of its rows.
-- Assumes nothing.
use native.Mathlib.Omega.{arith}
use lib.ListN.{length-set}
use Rattle.lexitem.specs.declared.item.LexItem.TheVariants as item
use Rattle.wording.specs.Fields.{field_words}
use Rattle.wording.proofs.Laws.Words.{rows-most, front-two, fills, fills-few}
use Rattle.wording.proofs.put_atom_fields.Goals as goal

pub returns-then-out-lt34 : goal.returns-then-out-lt34
returns-then-out-lt34 c = fills-few _ _ c.if-out-lt34.true

pub bounds-out-1 : goal.bounds-out-1
bounds-out-1 c =
    let room = c.if-out-lt34.false in
    let same = c.put_atom-end.auto.out in
    simp length-set (omega arith)

pub returns : goal.returns
unfolding field_words
returns c =
    let a = c.args in
    let room = c.if-out-lt34.false in
    let few = rows-most a.line.now (item.Atom a.atom) in
    fills a.out.now _ _ room
    (rw c.atom_number-number.ensures (front-two a.out.now _ _ _ _ (omega arith) c.put_atom-end.ensures))
