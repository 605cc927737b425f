-- `number::whole::after_plus` meets its contract: the library takes a plus off, if the text begins with one.
-- Assumes nothing.
use mathlib.Core.Path.{refl}
use Rattle.number.proofs.Laws.Digits.{plus_stripped}
use Rattle.number.proofs.whole.after_plus.Goals as goal

pub returns : goal.returns
returns c = rw c.unwrap_or.ensures (plus_stripped c.args.text.now c.strip_prefix.result c.args.text c.strip_prefix.ensures.cases refl)
