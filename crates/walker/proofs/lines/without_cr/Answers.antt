-- `walker::lines::without_cr` meets its contract: each return is a case of the byte just before the LF.
-- Assumes nothing.
use Rattle.walker.proofs.Laws.Pieces.{end_none, end-cr, end-other}
use Rattle.walker.proofs.lines.without_cr.Goals as goal

pub returns-then-lf-eq0 : goal.returns-then-lf-eq0
returns-then-lf-eq0 c = end_none _ _ c.requires.0 c.requires.1 c.if-lf-eq0.true

pub returns-then-rest-lf-eq13 : goal.returns-then-rest-lf-eq13
returns-then-rest-lf-eq13 c = end-cr _ _ c.requires.0 c.requires.1 c.if-lf-eq0.false c.if-rest-lf-eq13.true

pub returns : goal.returns
returns c = end-other _ _ c.requires.0 c.requires.1 c.if-lf-eq0.false c.if-rest-lf-eq13.false
