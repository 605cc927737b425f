-- `number::decimal::read_decimal` meets its contract: behind a sign no more than ten bytes are left.
-- Assumes nothing.
use mathlib.Core.Path.{refl, ◌∙◌}
use native.Mathlib.Omega.{arith}
use borrow.Author.Tests.{le-leb, lt-leb}
use Rattle.number.specs.Decimal.{decimal_of}
use Rattle.number.proofs.Laws.Digits.{after_sign-le}
use Rattle.number.proofs.decimal.read_decimal.Goals as goal

pub returns-then-t-gt10 : goal.returns-then-t-gt10
unfolding decimal_of
returns-then-t-gt10 c = rw (lt-leb _ _ (rw c.trim-t.ensures at c.if-t-gt10.true)) refl

pub read_plain-requires : goal.read_plain-requires
read_plain-requires c = rw c.after_sign.ensures (omega (arith, after_sign-le c.trim-t.result.now))

pub returns : goal.returns
unfolding decimal_of
returns c =
    let e = c.trim-t.ensures in
    let short = rw e at c.if-t-gt10.false in
    c.read_plain.ensures ∙ rw (c.begins.ensures, c.after_sign.ensures, e, le-leb _ 10 short) refl
