-- `carry::held::Held::ended_size` meets its contract: by whether a byte came, and whether the last one is a CR.
-- Assumes nothing.
use borrow.Author.Tests.{eq-eqb, ne_eqb}
use Rattle.carry.proofs.held.Held.ended_size.Goals as goal

pub returns-then-self-eq0 : goal.returns-then-self-eq0
returns-then-self-eq0 c = simp (eq-eqb _ _ c.if-self-eq0.true)

pub returns-then-self : goal.returns-then-self
returns-then-self c = simp (ne_eqb _ _ c.if-self-eq0.false, c.if-self.true)

pub returns : goal.returns
returns c = simp (ne_eqb _ _ c.if-self-eq0.false, c.if-self.false)
