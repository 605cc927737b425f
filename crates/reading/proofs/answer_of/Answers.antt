-- `reading::answer_of` meets its contract: the test is that of `answered`.
-- Assumes nothing.
use borrow.Author.Tests.{eq-eqb, ne_eqb}
use Rattle.reading.specs.Read.{answered}
use Rattle.reading.proofs.answer_of.Goals as goal

pub returns-then-kind-eq4294967295 : goal.returns-then-kind-eq4294967295
unfolding answered
returns-then-kind-eq4294967295 c = rw (eq-eqb _ 4294967295 c.if-kind-eq4294967295.true, ← c.options_of.ensures) c.lex_line.ensures

pub returns : goal.returns
unfolding answered
returns c = rw (ne_eqb _ 4294967295 c.if-kind-eq4294967295.false, ← c.options_of-2.ensures, ← c.kind_numbered.ensures) c.read_line_as.ensures
