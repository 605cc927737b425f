-- `bench_read::mixed_atom` meets its contract: each call mixes one double.
-- Assumes nothing.
use Rattle.std.proofs.Common.{refl}
use Rattle.bench_read.specs.Checksum.{mixed_atom}
use Rattle.bench_read.proofs.mixed_atom.Goals as goal

pub returns : goal.returns
unfolding mixed_atom
returns c = simp (c.mixed_real.ensures, c.mixed_real-occupancy.ensures, c.mixed_real-z.ensures, c.mixed_real-y.ensures, c.mixed_real-x.ensures) refl
