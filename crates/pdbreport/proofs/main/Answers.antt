-- `pdbreport::main` is safe: at each turn what is known is what the bytes so far left, and every line has a number, whatever the reads that are left
-- bring.
-- Assumes nothing.
use Prim.Native.Nat.{◌*◌}
use mathlib.Core.Path.{sym, ◌∙◌}
use native.Mathlib.Omega.{arith}
use Rattle.std.specs.Prelude.{ℕ}
use Rattle.std.proofs.lemmas.List.{length-replicate}
use lib.Seq.{length-take-le}
use Rattle.pdbreport.proofs.Laws.Came.{came-first, came-less, came-part, came-next}
use Rattle.pdbreport.proofs.main.Goals as goal

pub loop-turn-init : goal.loop-turn-init
loop-turn-init c = (length-replicate {A = ℕ} 65536 0, rw c.none-held.ensures (came-first (65536 * 140737488355328) (omega arith)))

pub slice_bounds-read_some-end : goal.slice_bounds-read_some-end
slice_bounds-read_some-end c = sym c.loop-turn.invariant.0

pub finish-requires : goal.finish-requires
finish-requires c = came-less _ _ 0 c.loop-turn.invariant.1 (omega arith)

pub slice_bounds-space-end : goal.slice_bounds-space-end
slice_bounds-space-end c =
    let turn = c.loop-turn in
    let read = c.read_some in
    let size = read.auto.space ∙ turn.invariant.0 in
    let few = c.in-Ok.ensures in
    omega arith

pub slice_bounds-take_part-end : goal.slice_bounds-take_part-end
slice_bounds-take_part-end c =
    let turn = c.loop-turn in
    let read = c.read_some in
    let size = read.auto.space ∙ turn.invariant.0 in
    let few = c.in-Ok.ensures in
    sym (length-take-le _ _ (omega arith))

pub take_part-requires : goal.take_part-requires
take_part-requires c =
    let turn = c.loop-turn in
    let read = c.read_some in
    came-part _ read.new.space c.in-Ok.n _ turn.invariant.1 (omega (arith, c.loop-turn-test.true)) (read.auto.space ∙ turn.invariant.0)

pub loop-turn-preserved : goal.loop-turn-preserved
loop-turn-preserved c =
    let turn = c.loop-turn in
    let read = c.read_some in
    let size = read.auto.space ∙ turn.invariant.0 in
    let took = c.in-Ok-take_part.ensures in
    (size, came-next _ read.new.space c.in-Ok.n _ turn.invariant.1 (omega (arith, c.loop-turn-test.true)) size _ _ (omega (arith, c.loop-turn-test.true)) took)
