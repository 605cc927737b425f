-- `field::number_field::signed` meets its contract: a fine field notes nothing, and one that isn't notes its one fault.
-- Assumes nothing.
use Rattle.std.proofs.Common.{rules}
use Rattle.line.specs.declared.fault.Sort.TheVariants.{Signed}
use Rattle.field.specs.Number.{signed_at, signed_faults, number_fault}
use Rattle.field.proofs.Laws.Fine.{number-one, signed-default}
use Rattle.field.proofs.Laws.Found.{got-found}
use Rattle.field.proofs.number_field.signed.Goals as goal

pub returns : goal.returns
returns c =
    let l = c.args.line.now in
    let at = c.args.at in
    got-found (signed_faults l at) (signed_at l at) _ (number_fault l at Signed) c.args.faults _ c.fine_signed.ensures (number-one l at Signed _)
    (signed-default l at)
    (λ f p. search rules)
    c.found_or.ensures
