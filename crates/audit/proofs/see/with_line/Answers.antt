-- `audit::see::with_line` meets its contract: by whether it is a MASTER line.
-- Assumes nothing.
use mathlib.Core.Path.{sym, ◌∙◌}
use Rattle.audit.proofs.see.with_line.Goals as goal

pub with_master-requires : goal.with_master-requires
with_master-requires c = sym c.is_master.ensures ∙ c.if-is_master.true

pub returns-then-is_master : goal.returns-then-is_master
returns-then-is_master c = rw (sym c.is_master.ensures ∙ c.if-is_master.true) c.with_master.ensures

pub returns : goal.returns
returns c = simp (sym c.is_master.ensures ∙ c.if-is_master.false)
