-- `number::whole::read_digits` meets its contract: a text is digits and nothing else when the run is all of it.
-- Assumes nothing.
use native.Mathlib.Omega.{arith}
use Rattle.number.proofs.Laws.Run.{digits-none, digits-short, digits-full}
use Rattle.number.proofs.whole.read_digits.Goals as goal

pub returns-then-text-eq0 : goal.returns-then-text-eq0
returns-then-text-eq0 c = digits-none _ c.if-text-eq0.true

pub returns-then-got-text : goal.returns-then-got-text
returns-then-got-text c = digits-short _ _ c.read_run-got.ensures c.if-got-text.true

pub returns : goal.returns
returns c = digits-full _ _ c.read_run-got.ensures (omega arith) c.if-got-text.false
