-- `verdict::put_last` meets its contract: by whether lines are missing, and then by whether a number differs.
-- Assumes nothing.
use mathlib.Core.Path.{sym, ◌∙◌}
use borrow.Author.Tests.{eq-eqb, ne_eqb}
use Rattle.verdict.specs.Verdict.{last_row}
use Rattle.verdict.proofs.put_last.Goals as goal

pub returns-then-lacks : goal.returns-then-lacks
unfolding last_row
returns-then-lacks c = rw (sym c.lacks.ensures ∙ c.if-lacks.true) c.put_bytes.ensures

pub returns-then-differing-eq0 : goal.returns-then-differing-eq0
unfolding last_row
returns-then-differing-eq0 c = rw (sym c.lacks.ensures ∙ c.if-lacks.false, eq-eqb _ _ (sym c.differing.ensures ∙ c.if-differing-eq0.true)) c.put_bytes-then-differing-eq0.ensures

pub returns : goal.returns
unfolding last_row
returns c = rw (sym c.lacks.ensures ∙ c.if-lacks.false, ne_eqb _ _ (λ z. c.if-differing-eq0.false (c.differing.ensures ∙ z))) c.put_bytes-2.ensures
