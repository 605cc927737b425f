-- `pdbreport::step::take_part` meets its contract. The loop's invariant: what is known is what the part up to the offset leaves.
-- Assumes nothing.
use mathlib.Core.Path.{refl}
use native.Mathlib.Omega.{arith}
use Rattle.pdbreport.specs.Fed.{fed_all}
use Rattle.pdbreport.proofs.Laws.Came.{loop_came, loop_next, loop_all}
use Rattle.pdbreport.proofs.step.take_part.Goals as goal

pub loop-at-init : goal.loop-at-init
unfolding fed_all
loop-at-init g c = (omega arith, refl)

pub step-requires : goal.step-requires
step-requires g c =
    let turn = c.loop-at in
    (loop_came _ _ _ _ turn.invariant.0 turn.invariant.1 c.requires, c.loop-at-test.true)

pub loop-at-smaller : goal.loop-at-smaller
loop-at-smaller g c =
    let took = c.in_ok-took.ensures in
    let further = took.further in
    omega (arith, c.loop-at-test.true)

pub loop-at-preserved : goal.loop-at-preserved
loop-at-preserved g c =
    let turn = c.loop-at in
    let took = c.in_ok-took.ensures in
    loop_next _ _ _ _ turn.invariant.0 turn.invariant.1 _ _ took

pub returns : goal.returns
returns g c = loop_all _ _ _ _ c.loop-at.invariant.0 c.loop-at.invariant.1 c.loop-at-test.false
