-- `bench_read::saltighedda_bench` meets its contract. The loop's invariant: the sum over the lines that are left, on top of the sum so far, is the
-- file's; and no more lines have gone before than bytes.
-- Assumes nothing.
use Prim.Native.Nat.{◌-◌, ◌≤◌}
use mathlib.Core.Path.{◌≡◌}
use lib.ListN.{length, drop}
use Rattle.walker.specs.Lines.{lines_of}
use Rattle.bench_read.specs.Checksum.{checksum_from, checksum_of}
use Rattle.bench_read.proofs.saltighedda_bench.Given as goal

abbrev pub invariant-loop-start : goal.invariant-loop-start
invariant-loop-start l =
    (l.count ≤ l.at) × (l.at ≤ length l.file) × (checksum_from l.count l.sum (lines_of (drop l.at l.file)) ≡ checksum_of l.file)

abbrev pub decreases-loop-start : goal.decreases-loop-start
decreases-loop-start l = length l.file - l.at
