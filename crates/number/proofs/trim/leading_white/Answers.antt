-- `number::trim::leading_white` meets its contract: the place of the first byte that stays, or the length.
-- Assumes nothing.
use mathlib.Core.Path.{sym, ◌∙◌}
use Rattle.number.proofs.Laws.Trim.{leading-position, place_or_length}
use Rattle.number.proofs.trim.leading_white.Goals as goal

pub returns : goal.returns
returns c =
    let t = c.args.text.now in
    c.unwrap_or.ensures ∙ place_or_length _ t c.first_left.ensures ∙ sym (leading-position t)
