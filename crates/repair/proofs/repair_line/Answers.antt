-- `repair::repair_line` meets its contract.
-- Assumes nothing.
use Rattle.repair.proofs.Laws.Repair.{repairs_few, repairs_all}
use Rattle.repair.proofs.repair_line.Goals as goal

pub returns-then-out-lt1024 : goal.returns-then-out-lt1024
returns-then-out-lt1024 c = repairs_few _ _ _ _ c.if-out-lt1024.true

pub returns : goal.returns
returns c = repairs_all _ _ _ _ _ _ _ c.if-out-lt1024.false c.repair_with.ensures
