-- `audit::found::found_in` meets its contract: which numbers differ, and then the twenty-four as they are.
-- Assumes nothing.
use mathlib.Core.Path.{refl}
use Rattle.audit.proofs.found.found_in.Goals as goal

pub returns : goal.returns
returns c = rw c.differing.ensures refl
