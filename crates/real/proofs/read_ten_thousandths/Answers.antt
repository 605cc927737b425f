-- `real::read_ten_thousandths` meets its contract: seven columns say a number below 10^7.
-- Assumes nothing.
use mathlib.Core.Path.{refl, sym, ap, ◌∙◌}
use native.Mathlib.Omega.{arith}
use borrow.Author.Tests.{le-leb, lt-leb}
use Rattle.std.specs.Prelude.{Some, option_map}
use Rattle.number.proofs.Laws.Signed.{held-is}
use Rattle.number.proofs.Laws.Width.{signed-within}
use Rattle.real.specs.Real.{ten_thousandths_of, ten_thousandth}
use Rattle.real.proofs.read_ten_thousandths.Goals as goal

pub returns-then-text-gt7 : goal.returns-then-text-gt7
unfolding ten_thousandths_of
returns-then-text-gt7 c = rw (lt-leb _ 7 c.if-text-gt7.true) refl

pub ten_thousandth-requires : goal.ten_thousandth-requires
ten_thousandth-requires c = rw (held-is c.in_ok-n.known_told-1-own.given.0.1) (signed-within _ (sym c.in_ok-n.ensures) 10 (omega arith))

pub returns-in_err-n : goal.returns-in_err-n
unfolding ten_thousandths_of
returns-in_err-n c =
    c.from_residual.ensures ∙ rw (le-leb _ 7 c.if-text-gt7.false) (ap (option_map ten_thousandth) c.in_err-n.ensures)

pub returns : goal.returns
unfolding ten_thousandths_of
returns c =
    ap Some c.ten_thousandth.ensures
    ∙ rw (held-is c.in_ok-n.known_told-1-own.given.0.1, le-leb _ 7 c.if-text-gt7.false) (ap (option_map ten_thousandth) c.in_ok-n.ensures)
