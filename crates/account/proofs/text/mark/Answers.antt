-- `account::text::mark` meets its contract: its arms are the definition's tests.
-- Assumes nothing.
use Rattle.std.proofs.Common.{arith}
use Rattle.std.proofs.lemmas.Grind.{common_steps}
use Rattle.account.specs.Account.{mark}
use Rattle.account.proofs.text.mark.Goals as goal

pub returns-in-32-to-126 : goal.returns-in-32-to-126
unfolding mark
returns-in-32-to-126 c = grind (arith, common_steps)

pub returns-in_default : goal.returns-in_default
unfolding mark
returns-in_default c = grind (arith, common_steps)

pub returns-in_default-2 : goal.returns-in_default-2
unfolding mark
returns-in_default-2 c = grind (arith, common_steps)
