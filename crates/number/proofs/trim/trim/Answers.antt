-- `number::trim::trim` meets its contract: the end is trimmed once the front is.
-- Assumes nothing.
use mathlib.Core.Path.{ap, ◌∙◌}
use Rattle.number.specs.Trim.{leading, end_trimmed, trimmed}
use Rattle.number.proofs.Laws.Trim.{leading_le, rest_from}
use Rattle.number.proofs.trim.trim.Goals as goal

pub slice_bounds-trim_end-count : goal.slice_bounds-trim_end-count
slice_bounds-trim_end-count c = rw c.leading_white-i.ensures (leading_le c.args.text.now)

pub slice_bounds-trim_end-start : goal.slice_bounds-trim_end-start
slice_bounds-trim_end-start c = rw c.leading_white-i.ensures (leading_le c.args.text.now)

pub returns : goal.returns
unfolding trimmed
returns c =
    let t = c.args.text.now in
    c.trim_end.ensures ∙ rw c.leading_white-i.ensures (ap end_trimmed (rest_from (leading t) t))
