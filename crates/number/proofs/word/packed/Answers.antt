-- `number::word::packed` meets its contract: each arm types in the number of its front, and seven or more is what the arms leave.
-- Assumes nothing.
use mathlib.Core.Path.{refl, ap}
use Rattle.number.proofs.Laws.Choice.{none_below}
use Rattle.number.proofs.Laws.Shape.{last-front}
use Rattle.number.specs.Word.{packed_of}
use Rattle.number.proofs.word.packed.Goals as goal

pub returns-in-0 : goal.returns-in-0
returns-in-0 c = rw c.in-0.is refl

pub returns-in-1 : goal.returns-in-1
returns-in-1 c = rw c.in-1.is refl

pub returns-in-2 : goal.returns-in-2
returns-in-2 c = rw c.in-2.is refl

pub returns-in-3 : goal.returns-in-3
returns-in-3 c = rw c.in-3.is refl

pub returns-in-4 : goal.returns-in-4
returns-in-4 c = rw c.in-4.is refl

pub returns-in-5 : goal.returns-in-5
returns-in-5 c = rw c.in-5.is refl

pub returns-in-6 : goal.returns-in-6
returns-in-6 c = rw c.in-6.is refl

pub returns-in_default : goal.returns-in_default
returns-in_default c = ap packed_of (last-front c.args.guess (none_below 7 _ c.in_default.in_default-own.rest))
