-- `kind::numbered::row_place` meets its contract: the first three rows stand one after the other.
-- Assumes nothing.
use native.Mathlib.Omega.{arith}
use Rattle.kind.proofs.numbered.row_place.Goals as goal
use Rattle.kind.proofs.Laws.Number.{place-near, place-far}

pub returns-in-0-to-2 : goal.returns-in-0-to-2
returns-in-0-to-2 c = place-near c.args.first c.args.row (omega arith)

pub returns-in_default : goal.returns-in_default
returns-in_default c = place-far c.args.first c.args.row (omega arith)
