-- `findings::refused_length` meets its contract: it goes by what the checker answers.
-- Assumes nothing.
use mathlib.Core.Path.{refl, sym, ◌∙◌}
use Rattle.findings.proofs.refused_length.Goals as goal

pub returns-in-Err : goal.returns-in-Err
returns-in-Err c = rw (sym c.check_master.ensures ∙ c.in-Err.is) refl

pub returns-in-Ok : goal.returns-in-Ok
returns-in-Ok c = rw (sym c.check_master.ensures ∙ c.in-Ok.is) refl
