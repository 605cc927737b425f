-- `real::wide::times` meets its contract: one rounding of an exact product.
-- Assumes nothing.
use native.Mathlib.Omega.{arith}
use mathlib.Core.Bool.{true, false}
use Rattle.real.proofs.Laws.Wide.{few_in, times_nearest}
use Rattle.real.proofs.wide.times.Goals as goal

pub int_to_float-product : goal.int_to_float-product
int_to_float-product c = few_in _ (omega arith)

pub returns-then-decimal : goal.returns-then-decimal
returns-then-decimal c = rw (c.ten.ensures, c.if-decimal.true) (times_nearest true _ _ (omega arith) (omega arith))

pub returns : goal.returns
returns c = rw (c.ten.ensures, c.if-decimal.false) (times_nearest false _ _ (omega arith) (omega arith))
