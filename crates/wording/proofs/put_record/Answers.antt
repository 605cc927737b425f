-- `wording::put_record` meets its contract: the rows' words are put behind two others, and the place behind them says how many there are.
-- Assumes nothing.
use native.Mathlib.Omega.{arith}
use lib.ListN.{length-set}
use Rattle.wording.specs.Fields.{field_words}
use Rattle.wording.proofs.Laws.Words.{rows-most, front-two, fills, fills-few}
use Rattle.wording.proofs.put_record.Goals as goal

pub returns-then-out-lt34 : goal.returns-then-out-lt34
returns-then-out-lt34 c = fills-few _ _ c.if-out-lt34.true

pub bounds-out-1 : goal.bounds-out-1
bounds-out-1 c =
    let room = c.if-out-lt34.false in
    let same = c.put_by_rows-end.auto.out in
    simp length-set (omega arith)

pub returns : goal.returns
unfolding field_words
returns c =
    let a = c.args in
    let room = c.if-out-lt34.false in
    let few = rows-most a.line.now a.item in
    fills a.out.now _ _ room
    (rw (c.number_of-number.ensures, c.kind.ensures) (front-two a.out.now _ _ _ _ (omega arith) c.put_by_rows-end.ensures))
