-- `tally::more` meets its contract: by whether the line is its own.
-- Assumes nothing.
use borrow.Author.Tests.{eq-eqb, ne_eqb}
use Rattle.tally.specs.Tally.{more}
use Rattle.tally.proofs.more.Goals as goal

pub returns-in-Some : goal.returns-in-Some
unfolding more
returns-in-Some c = rw (c.in-Some.is, eq-eqb _ _ c.if-n-own.true) c.saturating_add.ensures

pub returns-in_default : goal.returns-in_default
unfolding more
returns-in_default c = simp (c.in-Some.is, ne_eqb _ _ c.if-n-own.false)

pub returns-in_default-2 : goal.returns-in_default-2
unfolding more
returns-in_default-2 c = simp c.in_default.is
