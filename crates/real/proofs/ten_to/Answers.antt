-- `real::ten_to` meets its contract. The loop's invariant: after so many turns n is 10 to that power.
-- Assumes nothing.
use mathlib.Core.Path.{refl, ◌∙◌}
use native.Mathlib.Omega.{arith}
use Rattle.real.proofs.Laws.Powers.{ten_next, ten_few}
use Rattle.real.proofs.ten_to.Goals as goal

pub loop-init : goal.loop-init
loop-init c = refl

pub overflow_mul-n : goal.overflow_mul-n
overflow_mul-n c = omega (arith, ten_few _ _ c.loop.invariant (omega arith))

pub loop-preserved : goal.loop-preserved
loop-preserved c = ten_next _ _ c.loop.invariant
