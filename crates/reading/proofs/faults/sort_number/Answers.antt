-- `reading::faults::sort_number` meets its contract: each sort has its own number, told apart by computing it.
-- Assumes nothing.
use mathlib.Core.Path.{refl}
use Rattle.reading.proofs.faults.sort_number.Goals as goal

pub returns-in-Unsigned : goal.returns-in-Unsigned
returns-in-Unsigned c = rw c.in-Unsigned.is refl

pub returns-in-Signed : goal.returns-in-Signed
returns-in-Signed c = rw c.in-Signed.is refl

pub returns-in-Real : goal.returns-in-Real
returns-in-Real c = rw c.in-Real.is refl
