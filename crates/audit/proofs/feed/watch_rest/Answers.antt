-- `audit::feed::watch_rest` meets its contract: the whole lines as a file of their own, and what is behind them is held.
-- Assumes nothing.
use lib.ListN.{drop, length-drop}
use Rattle.carry.proofs.Laws.Whole.{whole_le}
use Rattle.audit.proofs.Laws.Turn.{rest_watches}
use borrow.Author.Rules.{rules}
use Rattle.audit.proofs.feed.watch_rest.Goals as goal

pub slice_bounds-see_lines-end : goal.slice_bounds-see_lines-end
slice_bounds-see_lines-end c =
    let most = whole_le (drop c.args.at c.args.part.now) in
    let size = length-drop c.args.at c.args.part.now in
    search rules

pub returns : goal.returns
returns c = rest_watches _ _ _ _ _ _ _ _ _ _ c.behind_last-behind.ensures c.see_lines-w.ensures c.none.ensures c.absorb-rest.ensures
