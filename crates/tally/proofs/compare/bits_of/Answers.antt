-- `tally::compare::bits_of` meets its contract. The loop's invariant: the bits are those of the places from i on.
-- Assumes nothing.
use mathlib.Core.Path.{◌≡◌, ◌∙◌}
use native.Mathlib.Omega.{arith}
use lib.ListN.{length}
use lib.Pow.{pow_pos}
use Rattle.tally.proofs.Laws.Bits.{unlike-byte, differing-end, turn-room, turn-again}
use Rattle.tally.proofs.compare.bits_of.Goals as goal

pub loop-i-init : goal.loop-i-init
loop-i-init c =
    let a = c.args in
    let pre = c.requires in
    (omega arith, differing-end a.counted.now a.said.now (length a.said.now) (omega arith), pow_pos _)

pub overflow_mul-bits : goal.overflow_mul-bits
overflow_mul-bits c =
    let p = c.requires in
    let room = turn-room _ _ _ _ p.0 p.1 c.loop-i-test.true c.loop-i.invariant _ (c.from.ensures ∙ unlike-byte _ _) in
    omega arith

pub overflow_add-bits : goal.overflow_add-bits
overflow_add-bits c =
    let p = c.requires in
    let room = turn-room _ _ _ _ p.0 p.1 c.loop-i-test.true c.loop-i.invariant _ (c.from.ensures ∙ unlike-byte _ _) in
    omega arith

pub loop-i-preserved : goal.loop-i-preserved
loop-i-preserved c =
    let p = c.requires in
    turn-again _ _ _ _ p.0 p.1 c.loop-i-test.true c.loop-i.invariant _ (c.from.ensures ∙ unlike-byte _ _)

pub returns : goal.returns
returns c =
    let e : c.loop-i.i ≡ 0 = omega (arith, c.loop-i-test.false) in
    rw e at c.loop-i.invariant.1
