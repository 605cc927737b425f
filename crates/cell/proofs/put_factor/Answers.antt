-- `cell::put_factor` meets its contract: the digits of four places, behind their sign if there is more than a zero, are the integer's.
-- Assumes nothing.
use mathlib.Core.Path.{sym, ◌∙◌}
use native.Mathlib.Omega.{arith}
use Rattle.cell.proofs.Laws.Cell.{factor-none, factor-some}
use Rattle.cell.proofs.Laws.Places.{places-few, placed}
use Rattle.cell.proofs.put_factor.Goals as goal

pub returns-in_default : goal.returns-in_default
returns-in_default c = rw (sym c.round_to.ensures ∙ c.in_default.is) c.put_none.ensures

pub returns-then-rounded-eq0 : goal.returns-then-rounded-eq0
returns-then-rounded-eq0 c =
    let is = sym c.round_to.ensures ∙ c.in-Some.is in
    rw (is, ← factor-none c.in-Some.rounded.minus _ c.if-rounded-eq0.true, c.if-rounded-eq0.true) c.put_decimal.ensures

pub put_decimal-requires-2 : goal.put_decimal-requires-2
put_decimal-requires-2 c =
    let (few, is) = placed _ _ _ _ (sym c.round_to.ensures ∙ c.in-Some.is) in
    record { q_bound = omega arith; digits_bound = places-few _ _ _ _ is }

pub returns : goal.returns
returns c =
    let is = sym c.round_to.ensures ∙ c.in-Some.is in
    rw (is, ← factor-some _ _ c.if-rounded-eq0.false) c.put_decimal-2.ensures
