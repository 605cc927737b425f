-- `field::number_field::real` meets its contract: a fine field notes nothing, and one that isn't notes its one fault.
-- Assumes nothing.
use Rattle.std.proofs.Common.{rules, sym, ◌∙◌}
use Rattle.line.specs.declared.fault.Sort.TheVariants.{Real}
use Rattle.field.specs.Number.{zero_real, read_at, real_faults, number_fault}
use Rattle.field.proofs.Laws.Fine.{number-one, real-said, real-default}
use Rattle.field.proofs.Laws.Found.{got-found}
use Rattle.field.proofs.number_field.real.Goals as goal

pub returns : goal.returns
returns c =
    let l = c.args.line.now in
    let at = c.args.at in
    let on = c.args.exponents in
    let d = c.args.default in
    got-found (real_faults on l at) (read_at on l at d) _ (number_fault l at Real) c.args.faults _
    (c.fine_real_with.ensures ∙ sym (real-said on l at zero_real) ∙ real-said on l at d)
    (number-one l at Real _)
    (λ e. real-default on l at e d)
    (λ f p. search rules)
    c.found_or.ensures
