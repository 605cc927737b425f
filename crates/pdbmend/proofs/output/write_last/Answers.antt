-- `pdbmend::output::write_last` meets its contract.
-- Assumes nothing.
use mathlib.Core.Path.{sym}
use native.Mathlib.Omega.{arith}
use Rattle.std.specs.Prelude.{ℕ}
use Rattle.std.proofs.lemmas.List.{length-replicate}
use lib.Seq.{length-take-le}
use Rattle.pdbmend.proofs.Laws.Room.{text-room, puts-count}
use Rattle.pdbmend.specs.Held.{state}
use Rattle.pdbmend.proofs.output.write_last.Goals as goal

pub slice_bounds-out-end : goal.slice_bounds-out-end
slice_bounds-out-end g c =
    let room = (text-room (state c.args.held c.args.kept.now) (omega (arith, c.requires))).0 in
    omega (arith, puts-count _ _ _ _ 4096 room (omega arith) c.put_text-put.ensures.puts)

pub slice_bounds-hand_over-end : goal.slice_bounds-hand_over-end
slice_bounds-hand_over-end g c =
    let room = (text-room (state c.args.held c.args.kept.now) (omega (arith, c.requires))).0 in
    sym (length-take-le _ _ (omega (arith, puts-count _ _ _ _ 4096 room (omega arith) c.put_text-put.ensures.puts, c.put_text-put.auto.out, length-replicate {A = ℕ} 4096 0)))

pub slice_bounds-rows-end : goal.slice_bounds-rows-end
slice_bounds-rows-end g c =
    let room = (text-room (state c.args.held c.args.kept.now) (omega (arith, c.requires))).1 in
    omega (arith, puts-count _ _ _ _ 65536 room (omega arith) c.put_text-put.ensures.tells)

pub slice_bounds-hand_over-end-2 : goal.slice_bounds-hand_over-end-2
slice_bounds-hand_over-end-2 g c =
    let room = (text-room (state c.args.held c.args.kept.now) (omega (arith, c.requires))).1 in
    sym (length-take-le _ _ (omega (arith, puts-count _ _ _ _ 65536 room (omega arith) c.put_text-put.ensures.tells, c.put_text-put.auto.rows, length-replicate {A = ℕ} 65536 0)))
