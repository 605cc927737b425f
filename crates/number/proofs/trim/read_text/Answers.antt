-- `number::trim::read_text` meets its contract: what is kept of the text behind the white bytes is what trim leaves.
-- Assumes nothing.
use Rattle.number.proofs.Laws.Trim.{span_none, span_some, leading_le}
use Rattle.number.proofs.trim.read_text.Goals as goal

pub slice_bounds-kept_length-count : goal.slice_bounds-kept_length-count
slice_bounds-kept_length-count c = rw c.leading_white-place.ensures (leading_le c.args.text.now)

pub slice_bounds-kept_length-start : goal.slice_bounds-kept_length-start
slice_bounds-kept_length-start c = rw c.leading_white-place.ensures (leading_le c.args.text.now)

pub returns-then-length-eq0 : goal.returns-then-length-eq0
returns-then-length-eq0 c = span_none _ _ _ c.leading_white-place.ensures c.kept_length-length.ensures c.if-length-eq0.true

pub returns : goal.returns
returns c = span_some _ _ _ c.leading_white-place.ensures c.kept_length-length.ensures c.if-length-eq0.false
