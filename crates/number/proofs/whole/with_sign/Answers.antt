-- `number::whole::with_sign` meets its contract: the machine's answer is there where the number is within 64 bits.
-- Assumes nothing.
use Rattle.number.proofs.Laws.Signed.{minus_held, plus_held}
use Rattle.number.proofs.whole.with_sign.Goals as goal

pub returns-then-minus : goal.returns-then-minus
returns-then-minus c = rw c.if-minus.true (minus_held c.args.n _ c.checked_sub_unsigned.ensures)

pub returns : goal.returns
returns c = rw c.if-minus.false (plus_held c.args.n _ c.checked_add_unsigned.ensures)
