-- `tally::names::number_of` meets its contract: a name is found by its number.
-- Assumes nothing.
use borrow.Author.Tests.{lt-ltb, le-ltb}
use lib.ListN.{length}
use Rattle.tally.specs.Names.{number_of}
use Rattle.tally.proofs.Laws.Name.{number_by_key_lem}
use Rattle.tally.proofs.names.number_of.Goals as goal

pub returns-then-line-lt3 : goal.returns-then-line-lt3
unfolding number_of
returns-then-line-lt3 c = simp (lt-ltb _ _ c.if-line-lt3.true)

pub returns : goal.returns
unfolding number_of
returns c =
    let l = c.args.line.now in
    rw (le-ltb (length l) 3 c.if-line-lt3.false, number_by_key_lem l c.shared_slice_known-1.given, ← c.name_key.ensures) c.numbered.ensures
