-- `ledger::accepted::enter_faults` meets its contract. The loop's invariant: with the faults that are left, the words are as all of them leave them.
-- Assumes nothing.
use mathlib.Core.Path.{◌≡◌}
use lib.ListN.{drop}
use Rattle.ledger.specs.Ledger.{with_faults}
use Rattle.ledger.proofs.accepted.enter_faults.Given as goal

abbrev pub invariant-loop-fault : goal.invariant-loop-fault
invariant-loop-fault l = with_faults l.ledger l.line l.kind (drop l.fault-index l.faults) ≡ with_faults l.initial.ledger l.line l.kind l.faults
