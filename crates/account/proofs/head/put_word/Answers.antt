-- `account::head::put_word` meets its contract.
-- Assumes nothing.
use mathlib.Core.Path.{refl}
use Rattle.page.specs.Page.{put}
use Rattle.page.proofs.Laws.Page.{put_then}
use Rattle.account.specs.Account.{word}
use Rattle.account.proofs.head.put_word.Goals as goal

pub returns-then-is_empty : goal.returns-then-is_empty
unfolding word put
returns-then-is_empty c = rw (← c.is_empty.ensures, c.if-is_empty.true) refl

pub returns : goal.returns
unfolding word
returns c = rw (← c.is_empty.ensures, c.if-is_empty.false) (put_then _ _ _ _ _ c.put_bytes-next.ensures c.put_marked.ensures)
