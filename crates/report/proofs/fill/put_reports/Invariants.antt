-- `report::fill::put_reports` meets its contract: each turn puts one report behind those that were put (Laws.Turn), and stands further on in
-- the file.
-- Assumes nothing.
use Prim.Native.Nat.{◌-◌}
use lib.ListN.{length}
use Rattle.report.proofs.Laws.Turn.{So}
use Rattle.report.proofs.fill.put_reports.Given as goal

abbrev pub invariant-loop-out : goal.invariant-loop-out
invariant-loop-out l = So l.file l.at l.number l.initial.out l.out l.filled.at l.filled.number l.filled.n

abbrev pub decreases-loop-out : goal.decreases-loop-out
decreases-loop-out l = length l.file - l.filled.at
