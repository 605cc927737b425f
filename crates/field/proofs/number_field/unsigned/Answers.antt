-- `field::number_field::unsigned` meets its contract: a fine field notes nothing, and one that isn't notes its one fault.
-- Assumes nothing.
use Rattle.std.proofs.Common.{rules}
use Rattle.line.specs.declared.fault.Sort.TheVariants.{Unsigned}
use Rattle.field.specs.Number.{unsigned_at, unsigned_faults, number_fault}
use Rattle.field.proofs.Laws.Fine.{number-one, unsigned-default}
use Rattle.field.proofs.Laws.Found.{got-found}
use Rattle.field.proofs.number_field.unsigned.Goals as goal

pub returns : goal.returns
returns c =
    let l = c.args.line.now in
    let at = c.args.at in
    got-found (unsigned_faults l at) (unsigned_at l at) _ (number_fault l at Unsigned) c.args.faults _ c.fine_unsigned.ensures (number-one l at Unsigned _)
    (unsigned-default l at)
    (λ f p. search rules)
    c.found_or.ensures
