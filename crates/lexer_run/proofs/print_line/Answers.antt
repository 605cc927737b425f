-- `lexer_run::print_line` is safe: any report has room in the space.
-- Assumes nothing.
use Rattle.std.proofs.Common.{refl, arith}
use Rattle.report.proofs.Laws.Room.{report-within, report-size}
use Rattle.lexer_run.proofs.print_line.Goals as goal

pub slice_bounds-space-end : goal.slice_bounds-space-end
slice_bounds-space-end g c = omega (arith, c.put_line-n.auto.out, report-within _ _ _ _ refl c.put_line-n.ensures)

pub slice_bounds-write_all-end : goal.slice_bounds-write_all-end
slice_bounds-write_all-end g c = report-size _ _ _ _ refl c.put_line-n.ensures
