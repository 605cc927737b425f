-- `tally::names::is_master` meets its contract: a name is told by its number.
-- Assumes nothing.
use Prim.Native.Nat.{ℕ}
use mathlib.Core.Path.{ap}
use lib.Dec.{eqb}
use Rattle.kind.specs.Key.{key_of}
use Rattle.line.specs.Bytes.{bytes}
use Rattle.tally.proofs.Laws.Name.{master_by_key}
use Rattle.tally.proofs.names.is_master.Goals as goal

pub returns : goal.returns
returns c = rw (master_by_key c.args.line.now c.shared_slice_known-1.given) (ap (λ (k : ℕ). eqb k (key_of (bytes "MASTER"))) c.name_key.ensures)
