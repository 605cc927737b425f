-- `writing::packed` meets its contract, an arm for each answer.
-- Assumes nothing.
use mathlib.Core.Path.{refl}
use Rattle.writing.specs.Write.{packed}
use Rattle.writing.proofs.packed.Goals as goal

pub returns-in_default : goal.returns-in_default
unfolding packed
returns-in_default c = rw c.in_default.is refl

pub returns-in-NoFit : goal.returns-in-NoFit
unfolding packed
returns-in-NoFit c = rw (c.in-Err.is, c.in-NoFit.is) (rw c.width-width.ensures refl)

pub returns-in-NoRoom : goal.returns-in-NoRoom
unfolding packed
returns-in-NoRoom c = rw (c.in-Err.is, c.in-NoRoom.is) refl
