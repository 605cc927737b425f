-- `seqres::read::count_triples` meets its contract. The loop's invariant: the triples are those passed and those from here on.
-- Assumes nothing.
use Prim.Native.Nat.{◌+◌, ◌-◌, ◌*◌}
use mathlib.Core.Path.{◌≡◌}
use Rattle.seqres.specs.Seqres.{triples_from, triples_of}
use Rattle.seqres.proofs.read.count_triples.Given as goal

abbrev pub invariant-loop-n : goal.invariant-loop-n
invariant-loop-n l = triples_of l.line ≡ l.n + triples_from (13 - l.n) (19 + 4 * l.n) l.line
