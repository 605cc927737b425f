-- `field::charge::read_charge` meets its contract: the tests are those of `charge_of`.
-- Assumes nothing.
use Prim.Native.Nat.{◌-◌}
use mathlib.Core.Path.{refl}
use native.Mathlib.Omega.{arith}
use mir.Syntax.{w64}
use mir.Facts.{to_z-of_z, to_z_pos}
use Rattle.field.specs.Charge.{charge_of}
use Rattle.number.proofs.Laws.Signed.{minus_is, minus-fits}
use Rattle.number.proofs.Laws.Digits.{digit_low, digit-high, digit_yes}
use Rattle.field.proofs.charge.read_charge.Goals as goal

pub returns-then-digit-lt48 : goal.returns-then-digit-lt48
returns-then-digit-lt48 c = rw (digit_low _ c.if-digit-lt48.true) refl

pub returns-then-digit-gt57 : goal.returns-then-digit-gt57
returns-then-digit-gt57 c = rw (digit-high c.args.digit (omega arith)) refl

pub returns-in-43 : goal.returns-in-43
unfolding charge_of
returns-in-43 c =
    let d = c.args.digit in
    rw (to_z_pos w64 {n = d - 48} (omega arith), digit_yes d c.if-digit-lt48.false (omega arith), c.in-43.is) refl

pub returns-in-45 : goal.returns-in-45
unfolding charge_of
returns-in-45 c =
    let d = c.args.digit in
    rw (minus_is (d - 48) (omega arith), to_z-of_z (minus-fits (d - 48) (omega arith)), digit_yes d c.if-digit-lt48.false (omega arith), c.in-45.is) refl
