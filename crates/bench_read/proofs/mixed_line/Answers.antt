-- `bench_read::mixed_line` meets its contract: what lexing the line answers is mixed in.
-- Assumes nothing.
use Rattle.std.proofs.Common.{refl}
use Rattle.bench_read.specs.Checksum.{mixed_answer}
use Rattle.bench_read.proofs.mixed_line.Goals as goal

pub returns : goal.returns
unfolding mixed_answer
returns c = simp (c.mixed.ensures, c.mixed_outcome.ensures, c.lex_line-answer.ensures) refl
