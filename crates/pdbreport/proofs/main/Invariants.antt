-- `pdbreport::main` is safe: at each turn what is known is what the bytes so far left, and every line has a number, whatever the reads that are left
-- bring.
-- Assumes nothing.
use Prim.Native.Nat.{◌*◌, ◌-◌}
use mathlib.Core.Path.{◌≡◌}
use lib.ListN.{length}
use Rattle.pdbreport.specs.Fed.{progress, Came}
use Rattle.pdbreport.proofs.main.Given as goal

abbrev pub invariant-loop-turn : goal.invariant-loop-turn
invariant-loop-turn l = (length l.space ≡ 65536) × Came (progress l.ledger l.held l.kept) (65536 * (140737488355328 - l._turn))
