-- `number::wide::marked_in` meets its contract: where no mark stands, nothing stands behind it.
-- Assumes nothing.
use mathlib.Core.Path.{sym, ◌∙◌}
use native.Mathlib.Omega.{arith}
use lib.ListN.{length-take}
use lib.Seq.{length-take-le}
use Rattle.number.proofs.Laws.Mark.{mark_none, mark_some}
use Rattle.number.proofs.Laws.Wide.{none_in, parts_in}
use Rattle.number.proofs.wide.marked_in.Goals as goal

pub returns-in_err-at : goal.returns-in_err-at
returns-in_err-at c = c.from_residual.ensures ∙ none_in _ (mark_none c.args.text.now (sym c.in_err-at.ensures))

pub slice_bounds-marked_parts-end : goal.slice_bounds-marked_parts-end
slice_bounds-marked_parts-end c = let (l, e) = mark_some c.args.text.now (sym c.in_ok-at.ensures) in sym (length-take-le _ _ (omega arith))

pub slice_bounds-marked_parts-count : goal.slice_bounds-marked_parts-count
slice_bounds-marked_parts-count c = let (l, e) = mark_some c.args.text.now (sym c.in_ok-at.ensures) in omega arith

pub marked_parts-requires : goal.marked_parts-requires
marked_parts-requires c = simp length-take (omega arith)

pub returns : goal.returns
returns c = let (l, e) = mark_some c.args.text.now (sym c.in_ok-at.ensures) in c.marked_parts.ensures ∙ parts_in _ _ e
