-- `number::trim::kept_length` meets its contract: nothing stays behind the last byte that does.
-- Assumes nothing.
use Rattle.std.proofs.Common.{rules}
use Rattle.number.proofs.Laws.Trim.{kept_none, kept_at}
use Rattle.number.proofs.trim.kept_length.Goals as goal

pub returns-in-Some : goal.returns-in-Some
returns-in-Some c = kept_at c.args.text.now c.in-Some.last (search rules) (search rules) (search rules)

pub returns-in-None : goal.returns-in-None
returns-in-None c = kept_none c.args.text.now (search rules)
