-- `sheet::rule_off` meets its contract: blanks up to the line's end.
-- Assumes nothing.
use mathlib.Core.Path.{ap}
use Rattle.page.specs.Page.{Page}
use Rattle.sheet.specs.Draft.{draft, filled}
use Rattle.sheet.proofs.rule_off.Goals as goal

pub returns : goal.returns
unfolding draft filled
returns c = ap (λ (p : Page). record { page = p; miss = c.args.pen.miss }) c.fill-next.ensures
