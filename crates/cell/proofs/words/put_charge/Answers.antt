-- `cell::words::put_charge` meets its contract, by the charge's sign.
-- Assumes nothing.
use mir.Syntax.{w64}
use mir.Facts.{to_z-of_z}
use Rattle.cell.proofs.Laws.Words.{charge-below, charge-above, charge-none}
use Rattle.cell.proofs.words.put_charge.Goals as goal

pub returns-then-n-lt0 : goal.returns-then-n-lt0
returns-then-n-lt0 c = rw (charge-below _ _ (to_z-of_z {w = w64} c.ranges.n) c.if-n-lt0.true) at c.put_marked.ensures

pub returns-then-n-gt0 : goal.returns-then-n-gt0
returns-then-n-gt0 c = rw (charge-above _ _ (to_z-of_z {w = w64} c.ranges.n) c.if-n-gt0.true) at c.put_marked-then-n-gt0.ensures

pub returns : goal.returns
returns c = rw (charge-none _ _ (to_z-of_z {w = w64} c.ranges.n) c.if-n-lt0.false c.if-n-gt0.false) at c.put_text.ensures
