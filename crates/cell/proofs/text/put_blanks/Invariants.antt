-- `cell::text::put_blanks` meets its contract. The loop's invariant: with the blanks that are left, the page is as all blanks leave it.
-- Assumes nothing.
use Prim.Native.Nat.{◌-◌}
use mathlib.Core.Path.{◌≡◌}
use Rattle.page.specs.Page.{page, put}
use Rattle.cell.specs.Text.{blanks}
use Rattle.cell.proofs.text.put_blanks.Given as goal

abbrev pub invariant-loop-i : goal.invariant-loop-i
invariant-loop-i l = put (page l.out l.next) (blanks (l.n - l.i)) ≡ put (page l.initial.out l.at) (blanks l.n)
