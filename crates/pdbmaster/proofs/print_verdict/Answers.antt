-- `pdbmaster::print_verdict` meets its contract: what there is to print has room in the space, and is the verdict of the whole.
-- Assumes nothing.
use mathlib.Core.Path.{sym}
use native.Mathlib.Omega.{arith}
use Rattle.std.specs.Prelude.{ℕ}
use Rattle.std.proofs.lemmas.List.{length-replicate}
use lib.Seq.{length-take-le}
use Rattle.verdict.proofs.Laws.Short.{put-short}
use Rattle.pdbmaster.proofs.Laws.Came.{came-tells}
use Rattle.pdbmaster.proofs.print_verdict.Goals as goal

pub slice_bounds-space-end : goal.slice_bounds-space-end
slice_bounds-space-end g c = omega (arith, put-short c.judge.result _ _ _ c.put_verdict-n.ensures)

pub slice_bounds-hand_over-end : goal.slice_bounds-hand_over-end
slice_bounds-hand_over-end g c = sym (length-take-le _ _ (omega (arith, put-short c.judge.result _ _ _ c.put_verdict-n.ensures)))

pub hand_over-requires : goal.hand_over-requires
hand_over-requires g c = came-tells _ _ _ _ _ _ c.watch_last.ensures c.judge.ensures c.put_verdict-n.ensures (length-replicate {A = ℕ} 4096 0) c.requires
