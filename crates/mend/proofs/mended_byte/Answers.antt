-- `mend::mended_byte` meets its contract.
-- Assumes nothing.
use Rattle.mend.proofs.Laws.Chain.{byte_kept, byte_marked}
use Rattle.mend.proofs.mended_byte.Goals as goal

pub returns-then-b-lt128 : goal.returns-then-b-lt128
returns-then-b-lt128 c = byte_kept _ c.if-b-lt128.true

pub returns : goal.returns
returns c = byte_marked _ c.if-b-lt128.false
