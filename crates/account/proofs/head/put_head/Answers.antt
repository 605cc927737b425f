-- `account::head::put_head` meets its contract.
-- Assumes nothing.
use Rattle.page.proofs.Laws.Page.{put_then}
use Rattle.account.specs.Account.{head}
use Rattle.account.proofs.head.put_head.Goals as goal

pub returns : goal.returns
unfolding head
returns c =
    put_then _ _ _ _ _ (put_then _ _ _ _ _ c.put_numbered-name.ensures
    c.put_kind-words.ensures)
    c.put_words.ensures
