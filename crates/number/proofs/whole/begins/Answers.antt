-- `number::whole::begins` meets its contract.
-- Assumes nothing.
use mathlib.Core.Path.{◌∙◌}
use Rattle.number.proofs.Laws.Digits.{starts-begins}
use Rattle.number.proofs.whole.begins.Goals as goal

pub returns : goal.returns
returns c = c.starts_with.ensures.value ∙ starts-begins c.args.byte c.args.text.now
