-- `ledger::accepted::is_at` meets its contract: test by test.
-- Assumes nothing.
use mathlib.Core.Path.{sym, ◌∙◌}
use borrow.Author.Tests.{eq-eqb, ne_eqb, lt-leb, le-leb}
use Rattle.ledger.proofs.accepted.is_at.Goals as goal

pub returns-then-number : goal.returns-then-number
returns-then-number c = simp (ne_eqb _ _ (λ z. c.if-number.true (c.number.ensures ∙ z)))

pub returns-then-place-low : goal.returns-then-place-low
returns-then-place-low c = simp (eq-eqb _ _ (sym c.number.ensures ∙ c.if-number.false), lt-leb _ _ c.if-place-low.true)

pub returns : goal.returns
returns c = simp (eq-eqb _ _ (sym c.number.ensures ∙ c.if-number.false), le-leb _ _ c.if-place-low.false)
