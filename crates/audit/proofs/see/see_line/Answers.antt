-- `audit::see::see_line` meets its contract: the count, the MASTER lines and the place, each with the line more.
-- Assumes nothing.
use mathlib.Core.Path.{refl}
use Rattle.audit.specs.Watch.{seen}
use Rattle.audit.proofs.see.see_line.Goals as goal

pub returns : goal.returns
unfolding seen
returns c = rw (c.further.ensures, c.with_line-masters.ensures, c.counted-tally.ensures) refl
