-- `cell::put_unsigned` meets its contract: no number has more than twenty digits.
-- Assumes nothing.
use Rattle.page.proofs.Laws.Decimal.{decimal-length}
use lib.Dec.{lit<}
use Rattle.cell.proofs.Laws.Put.{front}
use Rattle.cell.proofs.put_unsigned.Goals as goal

pub slice_bounds-bytes-end : goal.slice_bounds-bytes-end
slice_bounds-bytes-end c = (front _ _ _ _ (lit< tt) (decimal-length c.args.n c.ranges.n.fits).1 c.put_unsigned-length.ensures).room

pub slice_bounds-put_text-end : goal.slice_bounds-put_text-end
slice_bounds-put_text-end c = (front _ _ _ _ (lit< tt) (decimal-length c.args.n c.ranges.n.fits).1 c.put_unsigned-length.ensures).counted

pub returns : goal.returns
returns c =
    let f = front _ _ _ _ (lit< tt) (decimal-length c.args.n c.ranges.n.fits).1 c.put_unsigned-length.ensures in
    rw f.is at c.put_text.ensures
