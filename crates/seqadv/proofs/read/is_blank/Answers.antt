-- `seqadv::read::is_blank` meets its contract: `all` answers what a test that recurses like `blanks` does.
-- Assumes nothing.
use mathlib.Core.Path.{refl}
use Rattle.std.proofs.Common.{eqb, rules}
use Rattle.std.proofs.lemmas.List.Recursion.{and_is}
use Rattle.seqadv.specs.Seqadv.{blanks}
use Rattle.seqadv.proofs.read.is_blank.Goals as goal

pub returns : goal.returns
unfolding blanks
returns c = and_is blanks (λ b. eqb b 32) refl (λ _ _. refl) c.args.part.now 0 c.all.result (search rules) (search rules)
