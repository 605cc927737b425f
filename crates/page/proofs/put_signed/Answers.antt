-- `page::put_signed` meets its contract: a number below zero is a `-` and then its distance from zero, any other its distance alone.
-- Assumes nothing.
use mir.Syntax.{w64}
use mir.Facts.{to_z-of_z}
use Rattle.page.proofs.Laws.Signed.{signed-minus, signed-plus}
use Rattle.page.proofs.put_signed.Goals as goal

pub returns-then-n-lt0 : goal.returns-then-n-lt0
returns-then-n-lt0 c =
    signed-minus c.args.n _ _ _ _ (to_z-of_z {w = w64} c.ranges.n) c.unsigned_abs-distance.ensures.value _
    c.if-n-lt0.true
    c.put_byte-next.ensures
    c.put_unsigned.ensures

pub returns : goal.returns
returns c =
    signed-plus c.args.n _ _ _ _ (to_z-of_z {w = w64} c.ranges.n) c.unsigned_abs-distance.ensures.value
    c.if-n-lt0.false
    c.put_unsigned-2.ensures
