-- `parts::put::put_front` meets its contract: as many bytes are lent as the longest report needs.
-- Assumes nothing.
use mathlib.Core.Path.{sym}
use lib.Seq.{length-take-le}
use Rattle.parts.proofs.Laws.Put.{puts-report}
use Rattle.parts.proofs.put.put_front.Goals as goal

pub slice_bounds-put_line-end : goal.slice_bounds-put_line-end
slice_bounds-put_line-end c = sym (length-take-le _ _ c.requires.0)

pub slice_bounds-put_line-end-3 : goal.slice_bounds-put_line-end-3
slice_bounds-put_line-end-3 c = sym (length-take-le 4096 c.args.out.now c.requires.1)

pub returns : goal.returns
returns c = puts-report _ _ _ _ _ c.requires.1 c.put_line.ensures
