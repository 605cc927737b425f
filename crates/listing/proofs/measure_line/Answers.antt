-- `listing::measure_line` meets its contract: it goes by the outcome of the line, and an accepted line's listing is short enough to be counted.
-- Assumes nothing.
use Rattle.listing.proofs.Laws.Given.{measured-fit, fit-asks}
use Rattle.listing.proofs.measure_line.Goals as goal

pub measure-requires : goal.measure-requires
measure-requires c = fit-asks _ _ _ c.lex_line-answer.ensures c.in_ok-item.was

pub returns : goal.returns
returns c = measured-fit _ _ _ c.lex_line-answer.ensures c.in_ok-item.was _ _ c.measure.ensures
