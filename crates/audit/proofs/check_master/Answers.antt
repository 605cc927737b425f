-- `audit::check_master` meets its contract: what is answered after all lines. A file in memory has fewer than 2^64 bytes.
-- Assumes nothing.
use mathlib.Core.Path.{ap, ◌∙◌}
use native.Mathlib.Omega.{arith}
use Rattle.audit.specs.Watch.{judged_by}
use Rattle.audit.proofs.Laws.Watch.{checked-watched}
use Rattle.audit.proofs.check_master.Goals as goal

pub returns : goal.returns
returns c = c.judge.ensures ∙ ap judged_by c.see_lines.ensures ∙ checked-watched _ (omega arith)
