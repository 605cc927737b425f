-- `real::wide::wide_double` meets its contract: each test is the definition's.
-- Assumes nothing.
use native.Mathlib.Omega.{arith}
use Rattle.real.proofs.Laws.WideReal.{double_by, at_zero, at_far, lower_far, lower-near, higher_far, higher_over, higher_times}
use Rattle.real.proofs.wide.wide_double.Goals as goal

pub returns-then-decimal-eq0 : goal.returns-then-decimal-eq0
returns-then-decimal-eq0 c =
    let w = c.args.wide in
    let n = w.decimal in
    double_by w (at_zero n.minus n.digits n.places w.lower w.exponent _ c.if-decimal-eq0.true (rw c.if-decimal-eq0.true at c.over.ensures))

pub returns-then-wide-gt31 : goal.returns-then-wide-gt31
returns-then-wide-gt31 c =
    let w = c.args.wide in
    let n = w.decimal in
    double_by w (at_far n.minus n.digits n.places w.lower w.exponent c.if-decimal-eq0.false (omega arith) c.if-wide-gt31.true)

pub returns-then-p-x-gt22 : goal.returns-then-p-x-gt22
returns-then-p-x-gt22 c = double_by c.args.wide (lower_far _ _ _ _ _ c.if-wide.true c.if-decimal-eq0.false c.if-p-x-gt22.true)

pub returns-then-wide : goal.returns-then-wide
returns-then-wide c = double_by c.args.wide (lower-near _ _ _ _ _ c.if-wide.true _ c.if-p-x-gt22.false c.over-then-wide.ensures)

pub returns-then-x-p : goal.returns-then-x-p
returns-then-x-p c = double_by c.args.wide (higher_over _ _ _ _ _ c.if-wide.false _ c.if-x-p.true (omega arith) c.over-then-x-p.ensures)

pub returns-then-x-p-gt22 : goal.returns-then-x-p-gt22
returns-then-x-p-gt22 c = double_by c.args.wide (higher_far _ _ _ _ _ c.if-wide.false c.if-decimal-eq0.false c.if-x-p-gt22.true)

pub returns : goal.returns
returns c = double_by c.args.wide (higher_times _ _ _ _ _ c.if-wide.false _ c.if-x-p.false c.if-x-p-gt22.false c.times.ensures)
