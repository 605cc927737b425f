-- `sheet::mark` meets its contract, by its test.
-- Assumes nothing.
use mathlib.Core.Path.{refl}
use Rattle.sheet.specs.Draft.{marked}
use Rattle.sheet.proofs.mark.Goals as goal

pub returns-then-put : goal.returns-then-put
unfolding marked
returns-then-put c = rw c.if-put.true refl

pub returns : goal.returns
unfolding marked
returns c = rw (c.if-put.false, c.or.ensures) refl
