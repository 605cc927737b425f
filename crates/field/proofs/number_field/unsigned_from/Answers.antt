-- `field::number_field::unsigned_from` meets its contract: U past the column is fine where it says a number.
-- Assumes nothing.
use Rattle.std.proofs.Common.{rules, ap, ◌∙◌}
use Rattle.number.specs.Whole.{unsigned_of}
use Rattle.line.specs.declared.fault.Sort.TheVariants.{Unsigned}
use Rattle.field.specs.Number.{wrong_at, rest_columns, unsigned_from, unsigned_from_faults}
use Rattle.field.proofs.Laws.Fine.{rest-said, rest_one, rest-default}
use Rattle.field.proofs.Laws.Found.{got-found}
use Rattle.field.proofs.number_field.unsigned_from.Goals as goal

pub returns : goal.returns
returns c =
    let l = c.args.line.now in
    let k = c.args.start in
    got-found (unsigned_from_faults l k) (unsigned_from l k) _ (wrong_at Unsigned (rest_columns l k)) c.args.faults _
    (c.read_unsigned.ensures ∙ ap unsigned_of c.from_column.ensures ∙ rest-said l k)
    (rest_one l k)
    (rest-default l k)
    (λ f p. search rules)
    c.found_or.ensures
