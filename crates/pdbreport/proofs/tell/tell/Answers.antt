-- `pdbreport::tell::tell` meets its contract: what is put has room, is what is due, and is entered.
-- Assumes nothing.
use mathlib.Core.Path.{sym}
use native.Mathlib.Omega.{arith}
use Rattle.std.specs.Prelude.{ℕ}
use Rattle.std.proofs.lemmas.List.{length-replicate}
use lib.Seq.{length-take-le}
use Rattle.pdbreport.proofs.Laws.Came.{put-within, front-put, next-short, next-due, next-entered}
use Rattle.pdbreport.proofs.tell.tell.Goals as goal

pub slice_bounds-out-end : goal.slice_bounds-out-end
slice_bounds-out-end g c =
    let short = next-short _ _ _ _ c.requires in
    omega (arith, put-within _ _ _ _ c.put_account-n.ensures (length-replicate {A = ℕ} 4096 0) short)

pub slice_bounds-print_account-end : goal.slice_bounds-print_account-end
slice_bounds-print_account-end g c =
    let short = next-short _ _ _ _ c.requires in
    sym (length-take-le _ _ (omega (arith, put-within _ _ _ _ c.put_account-n.ensures (length-replicate {A = ℕ} 4096 0) short)))

pub print_account-written-requires : goal.print_account-written-requires
print_account-written-requires g c =
    let next = c.requires in
    next-due _ _ _ _ next _ (front-put _ _ _ _ c.put_account-n.ensures (length-replicate {A = ℕ} 4096 0) (next-short _ _ _ _ next))

pub returns : goal.returns
returns g c = next-entered _ _ _ _ c.requires _ c.enter.ensures
