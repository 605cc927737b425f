-- `pdbmend::output::write_part` meets its contract.
-- Assumes nothing.
use mathlib.Core.Path.{sym, ap, ◌∙◌}
use native.Mathlib.Omega.{arith}
use Rattle.std.specs.Prelude.{ℕ}
use Rattle.std.proofs.lemmas.List.{length-replicate}
use lib.ListN.{drop, length-drop}
use lib.Seq.{length-take-le}
use Rattle.pdbmend.specs.Held.{State, state}
use Rattle.pdbmend.proofs.Laws.Room.{turn-room, turn-held, turn-further, puts-count}
use Rattle.pdbmend.proofs.output.write_part.Goals as goal

pub loop-at-init : goal.loop-at-init
loop-at-init g c = (length-replicate {A = ℕ} 4096 0, length-replicate {A = ℕ} 65536 0, c.requires)

pub slice_bounds-turn-end : goal.slice_bounds-turn-end
slice_bounds-turn-end g c = sym c.loop-at.invariant.0

pub slice_bounds-turn-end-in-loop-at : goal.slice_bounds-turn-end-in-loop-at
slice_bounds-turn-end-in-loop-at g c = sym c.loop-at.invariant.1

pub turn-turned-requires : goal.turn-turned-requires
turn-turned-requires g c = (c.loop-at.invariant.2, omega (arith, c.loop-at.invariant.0))

pub slice_bounds-out-end : goal.slice_bounds-out-end
slice_bounds-out-end g c =
    let room = (turn-room (state c.loop-at.h c.loop-at.kept) (drop c.loop-at.at c.args.part.now) c.loop-at.invariant.2).0 in
    omega (arith, puts-count _ _ _ _ 4096 room (omega arith) c.turn-turned.ensures.puts)

pub slice_bounds-hand_over-end : goal.slice_bounds-hand_over-end
slice_bounds-hand_over-end g c =
    let room = (turn-room (state c.loop-at.h c.loop-at.kept) (drop c.loop-at.at c.args.part.now) c.loop-at.invariant.2).0 in
    let size = c.turn-turned.auto.out ∙ c.loop-at.invariant.0 in
    sym (length-take-le _ _ (omega (arith, puts-count _ _ _ _ 4096 room (omega arith) c.turn-turned.ensures.puts)))

pub slice_bounds-rows-end : goal.slice_bounds-rows-end
slice_bounds-rows-end g c =
    let room = (turn-room (state c.loop-at.h c.loop-at.kept) (drop c.loop-at.at c.args.part.now) c.loop-at.invariant.2).1 in
    omega (arith, puts-count _ _ _ _ 65536 room (omega arith) c.turn-turned.ensures.tells)

pub slice_bounds-hand_over-end-in-loop-at : goal.slice_bounds-hand_over-end-in-loop-at
slice_bounds-hand_over-end-in-loop-at g c =
    let room = (turn-room (state c.loop-at.h c.loop-at.kept) (drop c.loop-at.at c.args.part.now) c.loop-at.invariant.2).1 in
    let size = c.turn-turned.auto.rows ∙ c.loop-at.invariant.1 in
    sym (length-take-le _ _ (omega (arith, puts-count _ _ _ _ 65536 room (omega arith) c.turn-turned.ensures.tells)))

pub loop-at-smaller : goal.loop-at-smaller
loop-at-smaller g c =
    let d = length-drop c.loop-at.at c.args.part.now in
    let further = turn-further (state c.loop-at.h c.loop-at.kept) (drop c.loop-at.at c.args.part.now) c.loop-at.invariant.2 (omega (arith, c.loop-at-test.true)) in
    omega (arith, c.turn-turned.ensures.offset, c.loop-at-test.true)

pub loop-at-preserved : goal.loop-at-preserved
loop-at-preserved g c =
    let held = ap (λ (x : State). x.held.n) c.turn-turned.ensures.holds in (
      c.turn-turned.auto.out ∙ c.loop-at.invariant.0,
      c.turn-turned.auto.rows ∙ c.loop-at.invariant.1,
      omega (arith, held, turn-held (state c.loop-at.h c.loop-at.kept) (drop c.loop-at.at c.args.part.now) c.loop-at.invariant.2),
    )

pub returns : goal.returns
returns g c = c.loop-at.invariant.2
