-- `sheet::begin` meets its contract: the name is put on the bytes, and no field has missed yet.
-- Assumes nothing.
use mathlib.Core.Path.{ap}
use Rattle.std.specs.Prelude.{None}
use Rattle.page.specs.Page.{Page}
use Rattle.sheet.specs.Draft.{draft, begun}
use Rattle.sheet.proofs.begin.Goals as goal

pub returns : goal.returns
unfolding draft begun
returns c = ap (λ (p : Page). record { page = p; miss = None }) c.put_bytes-next.ensures
