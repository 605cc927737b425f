-- `pdbmend::held::line_size` meets its contract.
-- Assumes nothing.
use mathlib.Core.Path.{refl}
use borrow.Author.Tests.{eq-eqb, ne_eqb}
use Rattle.pdbmend.specs.Held.{size_in}
use Rattle.pdbmend.proofs.held.line_size.Goals as goal

pub returns-then-n-eq0 : goal.returns-then-n-eq0
unfolding size_in
returns-then-n-eq0 c = rw (eq-eqb _ 0 c.if-n-eq0.true) refl

pub returns-then-kept-n-eq13 : goal.returns-then-kept-n-eq13
unfolding size_in
returns-then-kept-n-eq13 c = rw (ne_eqb _ 0 c.if-n-eq0.false, eq-eqb _ 13 c.if-kept-n-eq13.true) refl

pub returns : goal.returns
unfolding size_in
returns c = rw (ne_eqb _ 0 c.if-n-eq0.false, ne_eqb _ 13 c.if-kept-n-eq13.false) refl
