-- `cell::words::put_marked` meets its contract: no number and a mark have more than twenty-one bytes.
-- Assumes nothing.
use mathlib.Core.Path.{refl}
use native.Mathlib.Omega.{arith}
use lib.Signed.{nat_abs-le}
use mir.Facts.{to_z-of_z}
use Rattle.cell.proofs.Laws.Put.{front-part}
use Rattle.cell.proofs.Laws.Words.{marked-front}
use borrow.Author.Rules.{rules}
use Rattle.cell.proofs.words.put_marked.Goals as goal

pub slice_bounds-put_text-count : goal.slice_bounds-put_text-count
slice_bounds-put_text-count c =
    let (two, f) = marked-front _ _ _ _ _ _ _ _ (to_z-of_z c.ranges.n) (nat_abs-le c.args.n c.ranges.n.sfits) refl c.put_signed-end.ensures c.put_byte-length.ensures in
    omega (arith, c.requires)

pub slice_bounds-put_text-start : goal.slice_bounds-put_text-start
slice_bounds-put_text-start c =
    let (two, f) = marked-front _ _ _ _ _ _ _ _ (to_z-of_z c.ranges.n) (nat_abs-le c.args.n c.ranges.n.sfits) refl c.put_signed-end.ensures c.put_byte-length.ensures in
    omega (arith, c.requires)

pub slice_bounds-put_text-end : goal.slice_bounds-put_text-end
slice_bounds-put_text-end c =
    let (two, f) = marked-front _ _ _ _ _ _ _ _ (to_z-of_z c.ranges.n) (nat_abs-le c.args.n c.ranges.n.sfits) refl c.put_signed-end.ensures c.put_byte-length.ensures in
    let room = f.room in
    search rules

pub returns : goal.returns
returns c =
    let (two, f) = marked-front _ _ _ _ _ _ _ _ (to_z-of_z c.ranges.n) (nat_abs-le c.args.n c.ranges.n.sfits) refl c.put_signed-end.ensures c.put_byte-length.ensures in
    rw (front-part _ _ _ c.args.skip f (omega (arith, c.requires))) at c.put_text.ensures
