-- `real::wide::ten` meets its contract: beyond 10 ^ 11 the product of two exact powers is exact.
-- Assumes nothing.
use native.Mathlib.Omega.{arith}
use Rattle.real.proofs.Laws.Wide.{ten_two}
use Rattle.real.proofs.wide.ten.Goals as goal

pub returns : goal.returns
returns c = ten_two _ _ _ c.converted-2.ensures c.converted-3.ensures (omega arith) (omega arith)
