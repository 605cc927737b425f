-- `audit::feed::see_front` meets its contract: the bytes are there.
-- Assumes nothing.
use mathlib.Core.Path.{sym}
use lib.Seq.{length-take-le}
use Rattle.audit.proofs.feed.see_front.Goals as goal

pub slice_bounds-see_line-end : goal.slice_bounds-see_line-end
slice_bounds-see_line-end c = sym (length-take-le _ _ c.requires)
