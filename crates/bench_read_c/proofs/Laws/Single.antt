-- The contract of each public function asks nothing and leaves one answer, with one content of all that is lent to be written.
-- Assumes nothing.
use Rattle.std.proofs.Common.{refl}
use Rattle.single.specs.One.{One}
use Rattle.single.proofs.Laws.One.{equation}
use Rattle.bench_read_c.specs.contracts as its

pub saltighedda_bench_one : One its.saltighedda_bench.ended (λ M 𝓤. its.saltighedda_bench.clauses)
saltighedda_bench_one w κs a g = equation w (λ u v. refl)
