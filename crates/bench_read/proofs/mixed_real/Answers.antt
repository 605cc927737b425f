-- `bench_read::mixed_real` meets its contract: what is mixed in are the double's bits.
-- Assumes nothing.
use Rattle.bench_read.specs.Checksum.{mixed_real}
use Rattle.bench_read.proofs.mixed_real.Goals as goal

pub returns : goal.returns
unfolding mixed_real
returns c = simp (c.mixed.ensures, c.bits_of.ensures)
