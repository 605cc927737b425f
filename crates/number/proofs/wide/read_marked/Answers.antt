-- `number::wide::read_marked` meets its contract: behind trimming no more than ten bytes are left.
-- Assumes nothing.
use mathlib.Core.Path.{refl, ◌∙◌}
use borrow.Author.Tests.{le-leb, lt-leb}
use Rattle.number.specs.Wide.{marked_of}
use Rattle.number.proofs.wide.read_marked.Goals as goal

pub returns-then-t-gt10 : goal.returns-then-t-gt10
unfolding marked_of
returns-then-t-gt10 c = rw (lt-leb _ _ (rw c.trim-t.ensures at c.if-t-gt10.true)) refl

pub returns : goal.returns
unfolding marked_of
returns c =
    let e = c.trim-t.ensures in
    c.marked_in.ensures ∙ rw (e, le-leb _ 10 (rw e at c.if-t-gt10.false)) refl
