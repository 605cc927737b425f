-- `writing::pack_bare` meets its contract, by the number that names the line.
-- Assumes nothing.
use borrow.Author.Tests.{eq-eqb, ne_eqb}
use Rattle.writing.specs.Write.{bare_by}
use Rattle.writing.proofs.Laws.Write.{packs, packs-other}
use Rattle.writing.proofs.pack_bare.Goals as goal

pub returns-then-which-eq0 : goal.returns-then-which-eq0
unfolding bare_by
returns-then-which-eq0 c = rw (eq-eqb _ 0 c.if-which-eq0.true) (packs _ _ _ _ _ c.write_bare.ensures c.packed.ensures)

pub returns-then-which-eq1 : goal.returns-then-which-eq1
unfolding bare_by
returns-then-which-eq1 c = rw (ne_eqb _ 0 c.if-which-eq0.false, eq-eqb _ 1 c.if-which-eq1.true) (packs _ _ _ _ _ c.write_bare-then-which-eq1.ensures c.packed-then-which-eq1.ensures)

pub returns-then-which-eq2 : goal.returns-then-which-eq2
unfolding bare_by
returns-then-which-eq2 c = rw (ne_eqb _ 0 c.if-which-eq0.false, ne_eqb _ 1 c.if-which-eq1.false, eq-eqb _ 2 c.if-which-eq2.true) (packs _ _ _ _ _ c.write_bare-then-which-eq2.ensures c.packed-then-which-eq2.ensures)

pub returns : goal.returns
unfolding bare_by
returns c = rw (ne_eqb _ 0 c.if-which-eq0.false, ne_eqb _ 1 c.if-which-eq1.false, ne_eqb _ 2 c.if-which-eq2.false) (packs-other _ _ c.packed-2.ensures)
