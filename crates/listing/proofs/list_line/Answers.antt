-- `listing::list_line` meets its contract: it goes by the outcome of the line, and an accepted line's listing is short enough to be counted.
-- Assumes nothing.
use Rattle.listing.proofs.Laws.Given.{listed-fit, fit-asks}
use Rattle.listing.proofs.list_line.Goals as goal

pub fit-requires : goal.fit-requires
fit-requires c = fit-asks _ _ _ c.lex_line-answer.ensures c.in_ok-item.was

pub returns : goal.returns
returns c = listed-fit _ _ _ c.lex_line-answer.ensures c.in_ok-item.was _ _ _ c.fit.ensures
