-- `parts::feed` meets its contract: each way out is one sort of turn (Laws.Turn).
-- Assumes nothing.
use native.Mathlib.Omega.{arith}
use lib.ListN.{drop, length-drop}
use Rattle.parts.proofs.Laws.Turn.{feeds-none, feeds-held, feeds-rest, feeds-lines}
use Rattle.carry.proofs.Laws.Whole.{whole_le}
use borrow.Author.Rules.{rules}
use Rattle.parts.proofs.feed.Goals as goal

pub returns-then-out-lt-LONGEST : goal.returns-then-out-lt-LONGEST
returns-then-out-lt-LONGEST c = feeds-none _ _ _ _ c.if-out-lt-LONGEST.true

pub returns-then-held-ne0 : goal.returns-then-held-ne0
returns-then-held-ne0 c = feeds-held _ _ _ _ _ _ _ c.if-out-lt-LONGEST.false c.if-held-ne0.true c.feed_held.ensures

pub returns-then-behind-at : goal.returns-then-behind-at
returns-then-behind-at c =
    let last = c.behind_last-behind.ensures in
    feeds-rest _ _ _ _ _ _ _ c.if-out-lt-LONGEST.false (omega (arith, last, c.if-behind-at.true)) c.feed_held-then-behind-at.ensures

pub feed_whole-requires : goal.feed_whole-requires
feed_whole-requires c =
    let last = c.behind_last-behind.ensures in
    record { is = last; within = omega (arith, last, whole_le (drop c.args.at c.args.part.now), length-drop c.args.at c.args.part.now, c.if-behind-at.false) }

pub returns : goal.returns
returns c =
    let last = c.behind_last-behind.ensures in
    feeds-lines _ _ _ _ _ _ _ c.if-out-lt-LONGEST.false (search rules) (omega (arith, last, c.if-behind-at.false)) (c.feed_whole.ensures _)
