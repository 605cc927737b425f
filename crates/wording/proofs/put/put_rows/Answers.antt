-- `wording::putput_rows` meets its contract. The loop's invariant: the words of the rows before i are put, two a row at most.
-- Assumes nothing.
use mathlib.Core.Path.{refl}
use native.Mathlib.Omega.{arith}
use Rattle.layout.specs.Each.{each}
use Rattle.wording.specs.Fields.{row_words}
use Rattle.wording.proofs.Laws.Words.{puts_none, puts-next, puts-all, row-two, two-more}
use borrow.Author.Rules.{rules}
use Rattle.wording.proofs.put.put_rows.Goals as goal

pub loop-row-init : goal.loop-row-init
unfolding each
loop-row-init c = (refl, omega arith, puts_none _ _)

pub put_row-next-requires : goal.put_row-next-requires
put_row-next-requires c =
    let l = c.loop-row in
    let start = c.requires in
    omega arith

pub loop-row-preserved : goal.loop-row-preserved
loop-row-preserved c =
    let l = c.loop-row in
    let many = c.well_formed in
    let put = c.put_row-next.ensures in
    let next = puts-next (row_words c.args.line.now) c.args.rows _ _ l.row-index _ _ _ _ _ (omega arith) l.invariant.2 put in
    (search rules, two-more c.args.at l.row-index _ _ put (row-two _ _) l.invariant.1, next)

pub shape_of-out : goal.shape_of-out
shape_of-out c = c.loop-row.invariant.0

pub returns : goal.returns
returns c =
    let many = c.well_formed in
    puts-all (row_words c.args.line.now) c.args.rows _ _ c.loop-row.row-index _ _ (omega arith) c.loop-row.invariant.2
