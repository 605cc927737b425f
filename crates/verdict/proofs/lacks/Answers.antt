-- `verdict::lacks` meets its contract: by the first number, and then by those behind the second.
-- Assumes nothing.
use mathlib.Core.Path.{refl, sym, ap}
use native.Mathlib.Omega.{arith}
use lib.ListN.{length}
use lib.Seq.{length-take-le}
use Rattle.verdict.proofs.Laws.Fewer.{lacks-first, lacks_rest}
use Rattle.verdict.proofs.lacks.Goals as goal

pub slice_bounds-fewer-end : goal.slice_bounds-fewer-end
slice_bounds-fewer-end c = let twelve = ap length c.counts_of-counts.ensures in sym (length-take-le 1 c.counts_of-counts.result (omega arith))

pub slice_bounds-fewer-end-2 : goal.slice_bounds-fewer-end-2
slice_bounds-fewer-end-2 c = let twelve = ap length c.said_by-numbers.ensures in sym (length-take-le 1 c.said_by-numbers.result (omega arith))

pub fewer-requires : goal.fewer-requires
fewer-requires c = rw (c.counts_of-counts.ensures, c.said_by-numbers.ensures) refl

pub returns-then-fewer : goal.returns-then-fewer
returns-then-fewer c = lacks-first _ _ _ _ c.counts_of-counts.ensures c.said_by-numbers.ensures _ c.fewer.ensures c.if-fewer.true

pub returns : goal.returns
returns c = lacks_rest _ _ _ _ c.counts_of-counts.ensures c.said_by-numbers.ensures _ c.fewer.ensures c.if-fewer.false _ c.fewer-2.ensures
