-- `writing::pack_row` meets its contract, by the number that names the line.
-- Assumes nothing.
use borrow.Author.Tests.{eq-eqb, ne_eqb}
use Rattle.writing.specs.Write.{row_by}
use Rattle.writing.proofs.Laws.Write.{packs, packs-other}
use Rattle.writing.proofs.pack_row.Goals as goal

pub returns-then-family-eq0 : goal.returns-then-family-eq0
unfolding row_by
returns-then-family-eq0 c = rw (eq-eqb _ 0 c.if-family-eq0.true) (packs _ _ _ _ _ c.write_scale.ensures c.packed.ensures)

pub returns-then-family-eq1 : goal.returns-then-family-eq1
unfolding row_by
returns-then-family-eq1 c = rw (ne_eqb _ 0 c.if-family-eq0.false, eq-eqb _ 1 c.if-family-eq1.true) (packs _ _ _ _ _ c.write_origx.ensures c.packed-then-family-eq1.ensures)

pub returns-then-family-eq2 : goal.returns-then-family-eq2
unfolding row_by
returns-then-family-eq2 c = rw (ne_eqb _ 0 c.if-family-eq0.false, ne_eqb _ 1 c.if-family-eq1.false, eq-eqb _ 2 c.if-family-eq2.true) (packs _ _ _ _ _ c.write_mtrix.ensures c.packed-then-family-eq2.ensures)

pub returns : goal.returns
unfolding row_by
returns c = rw (ne_eqb _ 0 c.if-family-eq0.false, ne_eqb _ 1 c.if-family-eq1.false, ne_eqb _ 2 c.if-family-eq2.false) (packs-other _ _ c.packed-2.ensures)
