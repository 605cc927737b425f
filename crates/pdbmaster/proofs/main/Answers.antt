-- `pdbmaster::main` is safe: at each turn what is known and held is what the parts so far left, and every place in the input has a number, whatever the
-- reads that are left bring.
-- Assumes nothing.
use Prim.Native.Nat.{◌+◌, ◌-◌}
use mathlib.Core.Path.{◌≡◌, sym, ◌∙◌}
use native.Mathlib.Omega.{arith}
use Rattle.std.specs.Prelude.{ℕ}
use Rattle.std.proofs.lemmas.List.{length-replicate}
use lib.Seq.{length-take-le}
use Rattle.pdbmaster.proofs.Laws.Came.{came-first, came-next, came-end}
use Rattle.pdbmaster.proofs.main.Goals as goal

pub loop-turn-init : goal.loop-turn-init
loop-turn-init c = (length-replicate {A = ℕ} 65536 0, rw c.none-held.ensures (came-first 140737488355328 (omega arith)))

pub slice_bounds-read_some-end : goal.slice_bounds-read_some-end
slice_bounds-read_some-end c = sym c.loop-turn.invariant.0

pub print_verdict-requires : goal.print_verdict-requires
print_verdict-requires c = came-end _ _ c.loop-turn.invariant.1

pub slice_bounds-space-end : goal.slice_bounds-space-end
slice_bounds-space-end c =
    let turn = c.loop-turn in
    let read = c.read_some in
    let size = read.auto.space ∙ turn.invariant.0 in
    let few = c.in-Ok.ensures in
    omega arith

pub slice_bounds-watch_part-end : goal.slice_bounds-watch_part-end
slice_bounds-watch_part-end c =
    let turn = c.loop-turn in
    let read = c.read_some in
    let size = read.auto.space ∙ turn.invariant.0 in
    let few = c.in-Ok.ensures in
    sym (length-take-le _ _ (omega arith))

pub loop-turn-preserved : goal.loop-turn-preserved
loop-turn-preserved c =
    let turn = c.loop-turn in
    let read = c.read_some in
    let size = read.auto.space ∙ turn.invariant.0 in
    let left : 140737488355328 - turn._turn - 1 ≡ 140737488355328 - (turn._turn + 1) = omega arith in
    let came = came-next _ read.new.space _ c.in-Ok.n (140737488355328 - turn._turn) _ turn.invariant.1 (omega arith) size c.watch_part-watched.ensures in
    (size, rw left at came)
