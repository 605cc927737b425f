-- `cell::words::is_printable` meets its contract: `all` answers what a test that recurses like `printable` does.
-- Assumes nothing.
use mathlib.Core.Path.{refl}
use Rattle.std.proofs.Common.{rules, leb, ◌&&◌}
use Rattle.std.proofs.lemmas.List.Recursion.{and_is}
use Rattle.cell.specs.Words.{printable}
use Rattle.cell.proofs.words.is_printable.Goals as goal

pub returns : goal.returns
unfolding printable
returns c =
    and_is printable (λ b. leb 32 b && leb b 126) refl (λ b t. refl) c.args.bytes.now 0 c.all.result
    (search rules)
    (search rules)
