-- `stream::output::print_part` meets its contract: at each turn the part from `at` on is due, by what is held (Laws.Printed), and the offset
-- goes on.
-- Assumes nothing.
use mathlib.Core.Path.{refl, sym, ◌∙◌}
use native.Mathlib.Omega.{arith}
use Rattle.std.specs.Prelude.{ℕ}
use Rattle.std.proofs.lemmas.List.{length-replicate}
use Rattle.stream.proofs.Laws.Printed.{fed-size, fed-within, due-first, due-part, due-next, due-further, due_all}
use Rattle.stream.proofs.output.print_part.Goals as goal

pub loop-at-init : goal.loop-at-init
loop-at-init g c = (length-replicate {A = ℕ} 65536 0, refl, due-first _ _)

pub slice_bounds-feed-end : goal.slice_bounds-feed-end
slice_bounds-feed-end g c = sym c.loop-at.invariant.0

pub slice_bounds-space-end : goal.slice_bounds-space-end
slice_bounds-space-end g c =
    let same = c.feed-fed.auto.out in
    let size = c.loop-at.invariant.0 in
    omega (arith, fed-within c.feed-fed.ensures same)

pub slice_bounds-print_next-end : goal.slice_bounds-print_next-end
slice_bounds-print_next-end g c = fed-size c.feed-fed.ensures

pub print_next-requires : goal.print_next-requires
print_next-requires g c = due-part _ _ c.requires _ _ _ c.loop-at.invariant.2 _ _ _ _ c.feed-fed.ensures

pub loop-at-smaller : goal.loop-at-smaller
loop-at-smaller g c =
    let turn = c.loop-at in
    let size = turn.invariant.0 in
    omega (arith, due-further _ _ c.requires _ _ _ turn.invariant.2 _ _ _ _ c.feed-fed.ensures (omega arith) (omega (arith, c.loop-at-test.true)), c.loop-at-test.true)

pub loop-at-preserved : goal.loop-at-preserved
loop-at-preserved g c =
    let turn = c.loop-at in
    let call = c.feed-fed in
    let all = c.in_ok-done.ensures in (
      call.auto.out ∙ turn.invariant.0,
      turn.invariant.1,
      due-next _ _ c.requires _ _ _ turn.invariant.2 _ _ _ _ call.ensures _ all,
    )

pub returns : goal.returns
returns g c = due_all _ _ _ _ _ c.loop-at.invariant.2 (omega (arith, c.loop-at-test.false))
