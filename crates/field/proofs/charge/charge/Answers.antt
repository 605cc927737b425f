-- `field::charge::charge` meets its contract: a fine charge notes nothing, and one that isn't stands in both columns and notes its one fault.
-- Assumes nothing.
use Rattle.std.proofs.Common.{rules, ap, ◌∙◌, length}
use Rattle.std.proofs.iter.Serving.{serving}
use Rattle.field.specs.Charge.{charge_at, charge_faults, charge_fault}
use Rattle.field.proofs.Laws.Fields.{two-columns}
use Rattle.field.proofs.Laws.Fine.{charge-one, charge-two, charge-none}
use Rattle.field.proofs.Laws.Found.{got-found, if-none}
use Rattle.field.proofs.charge.charge.Goals as goal

pub found_or-requires : goal.found_or-requires
found_or-requires c =
    let l = c.args.line.now in
    let at = c.args.at in
    if-none (charge_faults l at) (charge_at l at) _ c.fine_charge.ensures
    (λ e.
    let two = charge-two l at e in
    let n = ap length c.part-part.ensures ∙ two in
    let w = two-columns l at two in
    grind serving)

pub returns : goal.returns
returns c =
    let l = c.args.line.now in
    let at = c.args.at in
    got-found (charge_faults l at) (charge_at l at) _ (charge_fault _ at.start) c.args.faults _ c.fine_charge.ensures (charge-one l at)
    (charge-none l at)
    (λ f p. search rules)
    c.found_or.ensures
