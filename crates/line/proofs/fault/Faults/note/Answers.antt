-- `line::fault::Faults::note` meets its contract: the test is that of `noted`.
-- Assumes nothing.
use native.Mathlib.Omega.{arith}
use borrow.Author.Tests.{lt-ltb, le-ltb}
use Rattle.line.specs.Faults.{noted}
use Rattle.line.proofs.fault.Faults.note.Goals as goal

pub returns-then-at-lt-MOST : goal.returns-then-at-lt-MOST
unfolding noted
returns-then-at-lt-MOST c = simp (lt-ltb c.args.self.count 15 (omega arith))

pub returns : goal.returns
unfolding noted
returns c = simp (le-ltb c.args.self.count 15 (omega arith))
