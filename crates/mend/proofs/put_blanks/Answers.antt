-- `mend::put_blanks` meets its contract: a part of the bytes is filled.
-- Assumes nothing.
use native.Mathlib.Omega.{arith}
use Rattle.mend.proofs.Laws.Steps.{blanks-filled}
use Rattle.mend.proofs.put_blanks.Goals as goal

pub returns : goal.returns
returns c = blanks-filled _ _ _ _ _ c.requires (omega arith) (c.fill.ensures.after (λ y h. h))
