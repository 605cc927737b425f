-- `field::number_field::factor` meets its contract: a fine field notes nothing, and one that isn't notes its one fault.
-- Assumes nothing.
use Rattle.std.proofs.Common.{rules, ap, ◌∙◌}
use lib.Ieee.{of_bits}
use Rattle.line.specs.declared.fault.Sort.TheVariants.{Signed}
use Rattle.real.specs.Real.{ten_thousandths_of}
use Rattle.field.specs.Number.{factor_at, factor_faults, number_fault}
use Rattle.field.proofs.Laws.Fine.{number-one, factor-said, factor-default}
use Rattle.field.proofs.Laws.Found.{got-found}
use Rattle.field.proofs.number_field.factor.Goals as goal

pub returns : goal.returns
unfolding of_bits
returns c =
    let l = c.args.line.now in
    let at = c.args.at in
    got-found (factor_faults l at) (factor_at l at) _ (number_fault l at Signed) c.args.faults _
    (c.read_ten_thousandths.ensures ∙ ap ten_thousandths_of c.part.ensures ∙ factor-said l at)
    (number-one l at Signed _)
    (factor-default l at)
    (λ f p. search rules)
    c.found_or.ensures
