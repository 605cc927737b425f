-- `cell::put_signed` meets its contract: no number has more than twenty bytes.
-- Assumes nothing.
use lib.Signed.{nat_abs-le}
use mir.Facts.{to_z-of_z}
use Rattle.page.proofs.Laws.Signed.{signed-length}
use lib.Dec.{lit<}
use Rattle.cell.proofs.Laws.Put.{front}
use Rattle.cell.proofs.put_signed.Goals as goal

pub slice_bounds-bytes-end : goal.slice_bounds-bytes-end
slice_bounds-bytes-end c = (front _ _ _ _ (lit< tt) (signed-length c.args.n (nat_abs-le c.args.n c.ranges.n.sfits)).1 (rw (to_z-of_z c.ranges.n) at c.put_signed-length.ensures)).room

pub slice_bounds-put_text-end : goal.slice_bounds-put_text-end
slice_bounds-put_text-end c = (front _ _ _ _ (lit< tt) (signed-length c.args.n (nat_abs-le c.args.n c.ranges.n.sfits)).1 (rw (to_z-of_z c.ranges.n) at c.put_signed-length.ensures)).counted

pub returns : goal.returns
returns c =
    let f = front _ _ _ _ (lit< tt) (signed-length c.args.n (nat_abs-le c.args.n c.ranges.n.sfits)).1 (rw (to_z-of_z c.ranges.n) at c.put_signed-length.ensures) in
    rw f.is at c.put_text.ensures
