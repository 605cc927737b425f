-- `number::word::guess` meets its contract: what is taken from a mask lies in it, so that nothing overflows.
-- Assumes nothing.
use native.Mathlib.Omega.{arith}
use lib.Bits.{and_le_r}
use Rattle.number.specs.Word.{others}
use Rattle.number.proofs.word.guess.Goals as goal

pub overflow_sub-others : goal.overflow_sub-others
overflow_sub-others c = and_le_r c.args.front 0x1010_1010

pub overflow_add-result : goal.overflow_add-result
overflow_add-result c = let w = c.args.front in omega (arith, and_le_r w 0x1010_1010, and_le_r w (others w))

pub overflow_mul-result-2 : goal.overflow_mul-result-2
overflow_mul-result-2 c = let w = c.args.front in omega (arith, and_le_r w 0x1010_1010, and_le_r w (others w))
