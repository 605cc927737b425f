-- `field::number_field::fine_real_with` meets its contract: a plain decimal is read the same with the option on, and what is none with its exponent.
-- Assumes nothing.
use Rattle.std.proofs.Common.{rules, ◌∙◌}
use Rattle.number.specs.Wide.{marked_of}
use Rattle.real.specs.Wide.{wide_real}
use Rattle.line.specs.Columns.{part_of}
use Rattle.field.proofs.Laws.Either.{either-real}
use Rattle.field.proofs.Laws.Quick.{or-is}
use Rattle.field.proofs.number_field.fine_real_with.Goals as goal

pub returns-then-not-exponents : goal.returns-then-not-exponents
returns-then-not-exponents c = rw c.if-not-exponents.true c.fine_real.ensures

pub returns : goal.returns
returns c =
    let l = c.args.line.now in
    let at = c.args.at in
    rw c.if-not-exponents.false
    (or-is c.fine_real-2.result (wide_real (marked_of (part_of l at))) _ (λ p. search rules) c.or_else.ensures ∙ rw c.fine_real-2.ensures (either-real l at))
