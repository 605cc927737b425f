-- `pdbmend::turn::put_ended` meets its contract.
-- Assumes nothing.
use mathlib.Core.Path.{sym}
use native.Mathlib.Omega.{arith}
use lib.Seq.{length-take-le}
use Rattle.pdbmend.proofs.Laws.Turn.{size-le, ended-over, ended-line}
use Rattle.pdbmend.proofs.turn.put_ended.Goals as goal

pub slice_bounds-put_bytes-end : goal.slice_bounds-put_bytes-end
slice_bounds-put_bytes-end c = sym (length-take-le _ _ c.requires.0)

pub returns-then-held : goal.returns-then-held
returns-then-held c = ended-over c.args.held c.args.kept.now _ c.args.rows.now _ _ _ _ c.if-held.true c.put_bytes-end.ensures c.put_bytes-all.ensures

pub slice_bounds-repair_line-end : goal.slice_bounds-repair_line-end
slice_bounds-repair_line-end c = sym (length-take-le _ _ (omega (arith, c.line_size-size.ensures, size-le c.args.kept.now c.args.held.n, c.requires.0)))

pub slice_bounds-put_bytes-count : goal.slice_bounds-put_bytes-count
slice_bounds-put_bytes-count c = omega (arith, c.line_size-size.ensures, size-le c.args.kept.now c.args.held.n)

pub slice_bounds-put_bytes-start : goal.slice_bounds-put_bytes-start
slice_bounds-put_bytes-start c = omega (arith, c.line_size-size.ensures, size-le c.args.kept.now c.args.held.n, c.requires.0)

pub returns : goal.returns
returns c = ended-line c.args.held c.args.kept.now _ _ _ _ _ _ _ _ _ _ c.if-held.false c.requires.1 c.requires.0 c.line_size-size.ensures c.repair_line-line.ensures c.put_bytes-end-2.ensures c.put_bytes-all-2.ensures
