-- `field::charge::charge_fault` meets its contract: the tests are those of a digit.
-- Assumes nothing.
use mathlib.Core.Path.{refl}
use native.Mathlib.Omega.{arith}
use Rattle.number.proofs.Laws.Digits.{digit_low, digit-high, digit_yes}
use Rattle.field.proofs.charge.charge_fault.Goals as goal
use Rattle.field.proofs.charge.charge_fault.Goals.{in_default-via-then-digit-lt48, in_default-via-else-digit-lt48+else-digit-lt58}

pub returns-in-48-to-57 : goal.returns-in-48-to-57
returns-in-48-to-57 c = rw (c.new.ensures, digit_yes c.args.digit (omega arith) (omega arith)) refl

pub returns-in_default : goal.returns-in_default
returns-in_default c =
    elim c.in_default.branch [
      | in_default-via-then-digit-lt48 w ↦ rw (c.new-in_default.ensures, digit_low c.args.digit (omega arith)) refl
      | in_default-via-else-digit-lt48+else-digit-lt58 w ↦ rw (c.new-in_default.ensures, digit-high c.args.digit (omega arith)) refl
    ]
