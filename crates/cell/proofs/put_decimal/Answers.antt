-- `cell::put_decimal` meets its contract: no decimal has more than twenty-two bytes.
-- Assumes nothing.
use native.Mathlib.Nat.{le_trans}
use lib.Dec.{lit<, lit≤}
use Rattle.cell.proofs.Laws.Put.{front, fixed-short}
use Rattle.cell.proofs.put_decimal.Goals as goal

pub slice_bounds-bytes-end : goal.slice_bounds-bytes-end
slice_bounds-bytes-end c = (front _ _ _ _ (lit< tt) (le_trans (fixed-short c.args.q c.args.rounded.minus c.args.rounded.digits c.requires.q_bound c.requires.digits_bound) (lit≤ tt)) c.put_fixed-length.ensures).room

pub slice_bounds-put_text-end : goal.slice_bounds-put_text-end
slice_bounds-put_text-end c = (front _ _ _ _ (lit< tt) (le_trans (fixed-short c.args.q c.args.rounded.minus c.args.rounded.digits c.requires.q_bound c.requires.digits_bound) (lit≤ tt)) c.put_fixed-length.ensures).counted

pub returns : goal.returns
returns c =
    let f = front _ _ _ _ (lit< tt) (le_trans (fixed-short c.args.q c.args.rounded.minus c.args.rounded.digits c.requires.q_bound c.requires.digits_bound) (lit≤ tt)) c.put_fixed-length.ensures in
    rw f.is at c.put_text.ensures
