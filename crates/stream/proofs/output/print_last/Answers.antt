-- `stream::output::print_last` meets its contract: a last report has room in 4,096 bytes, and is all that there is to print.
-- Assumes nothing.
use mathlib.Core.Path.{sym}
use native.Mathlib.Omega.{arith}
use Rattle.std.specs.Prelude.{ℕ}
use Rattle.std.proofs.lemmas.List.{length-replicate}
use lib.Seq.{length-take-le}
use Rattle.stream.proofs.Laws.Printed.{last-text, last_within}
use Rattle.stream.proofs.output.print_last.Goals as goal

pub slice_bounds-space-end : goal.slice_bounds-space-end
slice_bounds-space-end g c =
    let size = sym (length-replicate {A = ℕ} 4096 0) in
    let same = c.finish-n.auto.out in
    omega (arith, last_within _ _ _ _ (sym size) c.finish-n.ensures same)

pub slice_bounds-print_end-end : goal.slice_bounds-print_end-end
slice_bounds-print_end-end g c =
    let size = sym (length-replicate {A = ℕ} 4096 0) in
    let same = c.finish-n.auto.out in
    sym (length-take-le _ _ (omega (arith, last_within _ _ _ _ (sym size) c.finish-n.ensures same)))

pub print_end-requires : goal.print_end-requires
print_end-requires g c = last-text _ _ _ _ (length-replicate {A = ℕ} 4096 0) c.finish-n.ensures
