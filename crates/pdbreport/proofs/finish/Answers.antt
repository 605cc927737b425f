-- `pdbreport::finish` meets its contract: what is put has room, and is the summary of the whole.
-- Assumes nothing.
use mathlib.Core.Path.{sym}
use native.Mathlib.Omega.{arith}
use Rattle.std.specs.Prelude.{ℕ}
use Rattle.std.proofs.lemmas.List.{length-replicate}
use lib.Seq.{length-take-le}
use Rattle.ledger.proofs.Laws.Short.{summary-short}
use Rattle.pdbreport.proofs.Laws.Came.{put-within, front-put, came-sums}
use Rattle.pdbreport.proofs.finish.Goals as goal

pub slice_bounds-out-end : goal.slice_bounds-out-end
slice_bounds-out-end g c = omega (arith, put-within _ _ _ _ c.put_summary-n.ensures (length-replicate {A = ℕ} 4096 0) (summary-short _))

pub slice_bounds-print_summary-end : goal.slice_bounds-print_summary-end
slice_bounds-print_summary-end g c = sym (length-take-le _ _ (omega (arith, put-within _ _ _ _ c.put_summary-n.ensures (length-replicate {A = ℕ} 4096 0) (summary-short _))))

pub print_summary-requires : goal.print_summary-requires
print_summary-requires g c = came-sums _ _ _ c.requires c.tell_last.ensures (front-put _ _ _ _ c.put_summary-n.ensures (length-replicate {A = ℕ} 4096 0) (summary-short _))
