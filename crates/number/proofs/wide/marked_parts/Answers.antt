-- `number::wide::marked_parts` meets its contract: each part is its reader's.
-- Assumes nothing.
use mathlib.Core.Path.{sym, ◌∙◌}
use native.Mathlib.Omega.{arith}
use Rattle.number.proofs.Laws.Digits.{after_sign-le}
use Rattle.number.proofs.Laws.Wide.{parts-other, parts_none, parts-both}
use Rattle.number.proofs.wide.marked_parts.Goals as goal

pub read_plain-requires : goal.read_plain-requires
read_plain-requires c = rw c.after_sign.ensures (omega (arith, after_sign-le c.args.front.now))

pub returns-in_err-decimal : goal.returns-in_err-decimal
returns-in_err-decimal c =
    c.from_residual.ensures ∙ parts-other _ _ (sym (rw (c.begins.ensures, c.after_sign.ensures) at c.in_err-decimal.ensures))

pub returns-in_err-exponent : goal.returns-in_err-exponent
returns-in_err-exponent c =
    c.from_residual-in_err-exponent.ensures ∙ parts_none _ _ (sym (rw c.after_sign-2.ensures at c.in_err-exponent.ensures))

pub returns : goal.returns
returns c =
    parts-both _ _ (sym (rw (c.begins.ensures, c.after_sign.ensures) at c.in_ok-decimal.ensures))
    (sym (rw c.after_sign-2.ensures at c.in_ok-exponent.ensures))
    c.begins-2.ensures
