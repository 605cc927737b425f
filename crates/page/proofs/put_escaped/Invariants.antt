-- `page::put_escaped` meets its contract. The loop's invariant: with the rest of the text escaped, the page is as the whole text leaves it.
-- Assumes nothing.
use mathlib.Core.Path.{◌≡◌}
use lib.ListN.{length, drop}
use Rattle.page.specs.Page.{page, put}
use Rattle.page.specs.Numerals.{escaped}
use Rattle.page.proofs.put_escaped.Given as goal

abbrev pub invariant-loop-b : goal.invariant-loop-b
invariant-loop-b l = (length l.out ≡ length l.initial.out) × (put (page l.out l.next) (escaped (drop l.b-index l.text)) ≡ put (page l.initial.out l.at) (escaped l.text))
