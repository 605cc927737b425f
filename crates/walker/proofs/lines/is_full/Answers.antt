-- `walker::lines::is_full` meets its contract: 64 bytes and 16 without an LF are passed, and then one stands there.
-- Assumes nothing.
use mathlib.Core.Path.{sym, ◌∙◌}
use native.Mathlib.Omega.{arith}
use lib.Seq.{length-take-le}
use Rattle.walker.proofs.Laws.Blocks.{full-free}
use Rattle.walker.proofs.lines.is_full.Goals as goal

pub slice_bounds-has_lf-end : goal.slice_bounds-has_lf-end
slice_bounds-has_lf-end c = sym (length-take-le 64 c.args.rest.now (omega arith))

pub returns : goal.returns
returns c = full-free _ c.if-rest-le80.false (sym c.has_lf.ensures ∙ c.if-has_lf.false) _ c.has_lf-2.ensures c.if-rest-ne10.false
