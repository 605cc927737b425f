-- `account::text::put_marked` meets its contract. The loop's invariant: with the rest of the text, the page is as the whole text leaves it.
-- Assumes nothing.
use mathlib.Core.Path.{◌≡◌}
use lib.ListN.{length, drop}
use Rattle.page.specs.Page.{page, put}
use Rattle.account.specs.Account.{marked}
use Rattle.account.proofs.text.put_marked.Given as goal

abbrev pub invariant-loop-b : goal.invariant-loop-b
invariant-loop-b l = (length l.out ≡ length l.initial.out) × (put (page l.out l.next) (marked (drop l.b-index l.text)) ≡ put (page l.initial.out l.at) (marked l.text))
