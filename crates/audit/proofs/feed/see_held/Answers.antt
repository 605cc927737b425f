-- `audit::feed::see_held` meets its contract: by whether the line is over 1,024 bytes.
-- Assumes nothing.
use borrow.Author.Tests.{lt-ltb, le-ltb}
use Rattle.audit.specs.Cuts.{seen_held}
use Rattle.audit.proofs.feed.see_held.Goals as goal

pub returns-then-size-gt-MOST_KEPT : goal.returns-then-size-gt-MOST_KEPT
unfolding seen_held
returns-then-size-gt-MOST_KEPT c = rw (lt-ltb _ _ c.if-size-gt-MOST_KEPT.true) c.see_line.ensures

pub returns : goal.returns
unfolding seen_held
returns c = rw (le-ltb _ _ c.if-size-gt-MOST_KEPT.false) c.see_front.ensures
