-- `real::wide::read_exponent` meets its contract: what is read is within the limits.
-- Assumes nothing.
use mathlib.Core.Path.{sym, ap, ◌∙◌}
use native.Mathlib.Omega.{arith}
use lib.Ieee.{Float}
use Rattle.std.specs.Prelude.{option_map}
use Rattle.number.specs.Wide.{WideLimits}
use Rattle.number.proofs.Laws.Wide.{marked_limits}
use Rattle.real.specs.Real.{real}
use Rattle.real.specs.Wide.{wide_real}
use Rattle.real.proofs.Laws.WideReal.{double_real}
use Rattle.real.proofs.wide.read_exponent.Goals as goal

pub wide_double-requires : goal.wide_double-requires
wide_double-requires c = rw (sym c.in_ok-wide.ensures) at (marked_limits c.args.text.now)

pub returns-in_err-wide : goal.returns-in_err-wide
returns-in_err-wide c = c.from_residual.ensures ∙ ap wide_real c.in_err-wide.ensures

pub returns-in_err-value : goal.returns-in_err-value
returns-in_err-value c =
    let w = c.in_ok-wide.wide in
    c.from_residual-in_err-value.ensures ∙ ap (option_map (λ (v : Float). real v w.decimal.places)) c.in_err-value.ensures ∙ double_real w
    ∙ ap wide_real c.in_ok-wide.ensures

pub overflow_cast-result : goal.overflow_cast-result
overflow_cast-result c =
    let few = rw (sym c.in_ok-wide.ensures) at (marked_limits c.args.text.now) in
    omega (arith, few.1)

pub returns : goal.returns
returns c =
    let w = c.in_ok-wide.wide in
    ap (option_map (λ (v : Float). real v w.decimal.places)) c.in_ok-value.ensures ∙ double_real w ∙ ap wide_real c.in_ok-wide.ensures
