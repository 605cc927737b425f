-- `parts::feed_whole` meets its contract: the lines up to the last LF are filled into the lent bytes as a file of their own.
-- Assumes nothing.
use Rattle.parts.proofs.Laws.Turn.{whole-within, whole-feeds}
use borrow.Author.Rules.{rules}
use Rattle.parts.proofs.feed_whole.Goals as goal

pub overflow_add-result : goal.overflow_add-result
overflow_add-result c =
    let fits = whole-within _ _ _ _ _ _ _ c.requires c.put_reports-filled.ensures in
    search rules

pub returns : goal.returns
returns c = whole-feeds _ _ _ _ _ _ _ c.requires c.put_reports-filled.ensures _ c.none.ensures
