-- `pdbmend::main` is safe: at each turn there is room for one byte more of the line that is held.
-- Assumes nothing.
use mathlib.Core.Path.{sym, ◌∙◌}
use native.Mathlib.Omega.{arith}
use Rattle.std.specs.Prelude.{ℕ}
use Rattle.std.proofs.lemmas.List.{length-replicate}
use lib.Seq.{length-take-le}
use Rattle.pdbmend.proofs.main.Goals as goal

pub loop-init : goal.loop-init
loop-init c = (length-replicate {A = ℕ} 65536 0, rw c.none-held.ensures (omega arith))

pub slice_bounds-read_some-end : goal.slice_bounds-read_some-end
slice_bounds-read_some-end c = sym c.loop.invariant.0

pub write_last-requires : goal.write_last-requires
write_last-requires c = c.loop.invariant.1

pub slice_bounds-space-end : goal.slice_bounds-space-end
slice_bounds-space-end c =
    let size = c.read_some.auto.space ∙ c.loop.invariant.0 in
    let few = c.in-Ok.ensures in
    omega arith

pub slice_bounds-write_part-end : goal.slice_bounds-write_part-end
slice_bounds-write_part-end c =
    let size = c.read_some.auto.space ∙ c.loop.invariant.0 in
    let few = c.in-Ok.ensures in
    sym (length-take-le _ _ (omega arith))

pub write_part-requires : goal.write_part-requires
write_part-requires c = c.loop.invariant.1

pub loop-preserved : goal.loop-preserved
loop-preserved c = (c.read_some.auto.space ∙ c.loop.invariant.0, c.in-Ok-write_part.ensures)
