-- `real::converted` meets its contract: the whole number is so small that its double is exact.
-- Assumes nothing.
use mathlib.Core.Path.{refl}
use native.Mathlib.Omega.{arith}
use lib.IntN.{pos}
use mir.Syntax.{w64}
use mir.Facts.{to_z_pos}
use Rattle.real.proofs.Laws.Powers.{ten_few}
use Rattle.real.proofs.Laws.Value.{integer_in}
use Rattle.real.proofs.converted.Goals as goal

pub overflow_cast-result : goal.overflow_cast-result
overflow_cast-result c = let few = ten_few c.ten_to.result _ c.ten_to.ensures (omega arith) in omega arith

pub int_to_float-result : goal.int_to_float-result
int_to_float-result c =
    let t = c.ten_to in
    let few = ten_few t.result _ t.ensures (omega arith) in
    rw (to_z_pos w64 {n = t.result} (omega arith)) (integer_in (pos t.result) (omega arith))

pub returns : goal.returns
returns c =
    let t = c.ten_to in
    let few = ten_few t.result _ t.ensures (omega arith) in
    rw (to_z_pos w64 {n = t.result} (omega arith), t.ensures) refl
