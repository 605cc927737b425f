-- `stream::list_from` is safe: at each turn what is held is what the parts so far left, and there are numbers for the lines of all reads that
-- are left.
-- Assumes nothing.
use mathlib.Core.Path.{sym, ◌∙◌}
use native.Mathlib.Omega.{arith}
use Rattle.std.specs.Prelude.{ℕ}
use Rattle.std.proofs.lemmas.List.{length-replicate}
use lib.Seq.{length-take-le}
use Rattle.stream.proofs.Laws.Printed.{came-first, came-next, comes-next, few-next}
use Rattle.stream.proofs.list_from.Goals as goal

pub loop-turn-init : goal.loop-turn-init
loop-turn-init g c = (length-replicate {A = ℕ} 65536 0, rw c.none-held.ensures came-first, rw c.none-held.ensures (omega arith))

pub slice_bounds-read_some-end : goal.slice_bounds-read_some-end
slice_bounds-read_some-end g c = sym c.loop-turn.invariant.0

pub print_last-requires : goal.print_last-requires
print_last-requires g c = c.loop-turn.invariant.1

pub slice_bounds-space-end : goal.slice_bounds-space-end
slice_bounds-space-end g c =
    let turn = c.loop-turn in
    let read = c.read_some in
    let size = read.auto.space ∙ turn.invariant.0 in
    let few = c.in-Ok.ensures in
    omega arith

pub slice_bounds-print_part-end : goal.slice_bounds-print_part-end
slice_bounds-print_part-end g c =
    let turn = c.loop-turn in
    let read = c.read_some in
    let size = read.auto.space ∙ turn.invariant.0 in
    let few = c.in-Ok.ensures in
    sym (length-take-le _ _ (omega arith))

pub print_part-requires : goal.print_part-requires
print_part-requires g c =
    let turn = c.loop-turn in
    let read = c.read_some in
    let size = read.auto.space ∙ turn.invariant.0 in
    let few = c.in-Ok.ensures in
    comes-next _ read.new.space c.in-Ok.n _ turn.invariant.1 turn.invariant.2 (omega (arith, c.loop-turn-test.true)) size

pub loop-turn-preserved : goal.loop-turn-preserved
loop-turn-preserved g c =
    let turn = c.loop-turn in
    let read = c.read_some in
    let size = read.auto.space ∙ turn.invariant.0 in
    let went = c.in-Ok-print_part.ensures in (
      size,
      came-next _ _ _ turn.invariant.1 went.0,
      few-next _ read.new.space c.in-Ok.n _ turn.invariant.1 turn.invariant.2 (omega (arith, c.loop-turn-test.true)) size _ _ (omega (arith, c.loop-turn-test.true)) went.0,
    )
