-- `printer::places::places_at` meets its contract, by its test.
-- Assumes nothing.
use native.Mathlib.Omega.{arith}
use Rattle.printer.proofs.Laws.Sheets.{asked-at, asked-behind}
use Rattle.printer.proofs.places.places_at.Goals as goal

pub overflow_cast-result : goal.overflow_cast-result
overflow_cast-result c = record { fits = omega (arith, c.shared_slice_known-1.given c.args.n) }

pub returns-then-n-asked : goal.returns-then-n-asked
returns-then-n-asked c = asked-at _ _ _ c.if-n-asked.true

pub returns : goal.returns
returns c = asked-behind _ _ _ c.if-n-asked.false
