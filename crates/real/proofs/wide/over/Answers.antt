-- `real::wide::over` meets its contract: one rounding of an exact quotient.
-- Assumes nothing.
use native.Mathlib.Omega.{arith}
use mathlib.Core.Bool.{true, false}
use Rattle.real.proofs.Laws.Wide.{few_in, over-nearest}
use Rattle.real.proofs.wide.over.Goals as goal

pub int_to_float-quotient : goal.int_to_float-quotient
int_to_float-quotient c = few_in _ (omega arith)

pub returns-then-decimal : goal.returns-then-decimal
returns-then-decimal c = rw (c.ten.ensures, c.if-decimal.true) (over-nearest true _ _ (omega arith) (omega arith))

pub returns : goal.returns
returns c = rw (c.ten.ensures, c.if-decimal.false) (over-nearest false _ _ (omega arith) (omega arith))
