-- `field::text_field::is_whole` meets its contract: the tests are of the first byte and of the last.
-- Assumes nothing.
use Prim.Native.Nat.{◌-◌}
use mathlib.Core.Path.{refl}
use native.Mathlib.Omega.{arith}
use borrow.Author.Tests.{ltb-true}
use lib.ListN.{length, get_or}
use Rattle.number.proofs.Laws.Choice.{clash}
use Rattle.field.proofs.Laws.Fields.{whole_span}
use Rattle.field.proofs.text_field.is_whole.Goals as goal

pub returns-then-n-eq0 : goal.returns-then-n-eq0
returns-then-n-eq0 c = λ e. absurd (clash e refl)

pub returns-then-part-le32 : goal.returns-then-part-le32
returns-then-part-le32 c = λ e. absurd (clash e refl)

pub returns : goal.returns
returns c =
    λ e.
    let t = c.args.part.now in
    let some = c.if-n-eq0.false in
    let first = c.if-part-le32.false in
    let last = ltb-true 32 (get_or t (length t - 1) 0) e in
    (omega arith, whole_span t (omega arith) (omega arith) last)
