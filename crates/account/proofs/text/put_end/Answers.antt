-- `account::text::put_end` meets its contract.
-- Assumes nothing.
use borrow.Author.Tests.{lt-ltb, le-ltb}
use Rattle.account.proofs.text.put_end.Goals as goal

pub returns-then-size-gt120 : goal.returns-then-size-gt120
returns-then-size-gt120 c = rw (lt-ltb 120 _ c.if-size-gt120.true) c.put_bytes.ensures

pub returns : goal.returns
returns c = rw (le-ltb 120 _ c.if-size-gt120.false) c.put_bytes-2.ensures
