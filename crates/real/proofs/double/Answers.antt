-- `real::double` meets its contract: the calls are those of the definition, a sign may go with the divisor, and M fits a signed integer.
-- Assumes nothing.
use mathlib.Core.Path.{refl}
use Prim.Native.Nat.{◌^◌}
use native.Mathlib.Omega.{arith}
use lib.IntN.{pos}
use lib.Ieee.{binary64, of_int}
use mir.Syntax.{w64}
use mir.Facts.{to_z_pos}
use Rattle.real.proofs.Laws.Turned.{div_turned}
use Rattle.real.proofs.Laws.Value.{integer_in}
use Rattle.real.specs.Double.{double_of}
use Rattle.real.proofs.double.Goals as goal

pub int_to_float-whole : goal.int_to_float-whole
int_to_float-whole c = let m = c.args.decimal.digits in rw (to_z_pos w64 {n = m} (omega arith)) (integer_in (pos m) (omega arith))

pub returns-then-decimal : goal.returns-then-decimal
unfolding double_of
returns-then-decimal c =
    let a = c.args.decimal in
    rw (to_z_pos w64 {n = a.digits} (omega arith), c.if-decimal.true, c.power-over.ensures)
    (div_turned binary64 (of_int binary64 (pos a.digits)) (of_int binary64 (pos (10 ^ a.places))))

pub returns : goal.returns
unfolding double_of
returns c = rw (to_z_pos w64 {n = c.args.decimal.digits} (omega arith), c.if-decimal.false, c.power-over.ensures) refl
