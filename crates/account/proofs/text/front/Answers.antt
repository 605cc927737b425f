-- `account::text::front` meets its contract.
-- Assumes nothing.
use native.Mathlib.Omega.{arith}
use Rattle.account.proofs.Laws.Parts.{take-min}
use Rattle.account.proofs.text.front.Goals as goal

pub returns : goal.returns
returns c = take-min 120 c.min.result c.args.text.now (omega arith)
