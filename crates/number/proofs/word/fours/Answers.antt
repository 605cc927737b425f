-- `number::word::fours` meets its contract: what is taken from a mask lies in it, so that nothing overflows.
-- Assumes nothing.
use native.Mathlib.Omega.{arith}
use lib.Bits.{and_le_r}
use Prim.Native.Nat.{◌+◌, ◌*◌, ◌/◌}
use Rattle.number.proofs.word.fours.Goals as goal

pub overflow_mul-result : goal.overflow_mul-result
overflow_mul-result c = let w = c.args.word in omega (arith, and_le_r (w * 10 + w / 256) 0x00ff_00ff_00ff_00ff)

pub overflow_add-result : goal.overflow_add-result
overflow_add-result c = let w = c.args.word in omega (arith, and_le_r (w * 10 + w / 256) 0x00ff_00ff_00ff_00ff)
