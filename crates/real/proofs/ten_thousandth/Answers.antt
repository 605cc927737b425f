-- `real::ten_thousandth` meets its contract: the divisor is the double of 10 ^ 4.
-- Assumes nothing.
use mathlib.Core.Path.{refl}
use native.Mathlib.Omega.{arith}
use mir.Facts.{to_z-of_z}
use Rattle.real.proofs.Laws.Value.{integer_in}
use Rattle.real.specs.Real.{ten_thousandth}
use Rattle.real.proofs.ten_thousandth.Goals as goal

pub int_to_float-result : goal.int_to_float-result
int_to_float-result c = rw (to_z-of_z c.ranges.n) (integer_in c.args.n (omega arith))

pub returns : goal.returns
unfolding ten_thousandth
returns c = rw (to_z-of_z c.ranges.n, c.power.ensures) refl
