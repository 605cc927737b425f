-- `pdbmend::turn::put_text` meets its contract.
-- Assumes nothing.
use mathlib.Core.Path.{sym}
use lib.Seq.{length-take-le}
use Rattle.pdbmend.proofs.Laws.Turn.{text-over, text-line}
use Rattle.pdbmend.proofs.turn.put_text.Goals as goal

pub slice_bounds-put_bytes-end : goal.slice_bounds-put_bytes-end
slice_bounds-put_bytes-end c = sym (length-take-le _ _ c.requires.0)

pub returns-then-held : goal.returns-then-held
returns-then-held c = text-over c.args.held c.args.kept.now _ c.args.rows.now _ _ c.if-held.true c.put_bytes-all.ensures

pub slice_bounds-repair_line-end : goal.slice_bounds-repair_line-end
slice_bounds-repair_line-end c = sym (length-take-le _ _ c.requires.0)

pub returns : goal.returns
returns c = text-line c.args.held c.args.kept.now _ _ _ _ _ c.if-held.false c.requires.1 c.repair_line.ensures
