-- `field::charge::fine_charge` meets its contract: the part is both columns, or the line has no charge.
-- Assumes nothing.
use mathlib.Core.Path.{refl, ◌∙◌}
use borrow.Author.Tests.{eq-eqb, ne_eqb}
use Rattle.field.specs.Charge.{charged, both_blank, charge_at, charge_faults}
use Rattle.field.proofs.Laws.Fine.{charge-fine}
use Rattle.field.proofs.Laws.Found.{fine-cond}
use Rattle.field.proofs.charge.fine_charge.Goals as goal
use Rattle.field.proofs.charge.fine_charge.Goals.{else-part-eq32-via-then-part-eq32+else-part-eq32-2, else-part-eq32-via-else-part-eq32}

pub returns-then-part-ne2 : goal.returns-then-part-ne2
unfolding charge_at charge_faults charged
returns-then-part-ne2 c = rw (← c.part-part.ensures, ne_eqb _ 2 c.if-part-ne2.true) refl

pub returns-then-part-eq32-2 : goal.returns-then-part-eq32-2
unfolding charge_at charge_faults charged both_blank
returns-then-part-eq32-2 c =
    rw (← c.part-part.ensures, eq-eqb _ 2 c.if-part-ne2.false, eq-eqb _ 32 c.if-part-eq32.true, eq-eqb _ 32 c.if-part-eq32-2.true) refl

pub returns : goal.returns
unfolding charge_at charge_faults charged both_blank
returns c =
    c.read_charge.ensures ∙ rw (fine-cond, ← c.part-part.ensures, eq-eqb _ 2 c.if-part-ne2.false)
    (elim c.else-part-eq32.branch [
      | else-part-eq32-via-then-part-eq32+else-part-eq32-2 w ↦
          rw (eq-eqb _ 32 w.if-part-eq32.true, ne_eqb _ 32 w.if-part-eq32-2.false, charge-fine) refl
      | else-part-eq32-via-else-part-eq32 w ↦ rw (ne_eqb _ 32 w.if-part-eq32.false, charge-fine) refl
    ])
