-- `carry::keep::absorb` meets its contract: at each turn, what the bytes that are left would leave is what all of them leave (Laws.Keep).
-- Assumes nothing.
use mathlib.Core.Path.{refl, ◌∙◌}
use native.Mathlib.Omega.{arith}
use Rattle.carry.proofs.Laws.Keep.{keep-made, absorb_here, absorb_next, absorb_none, ended-at}
use Rattle.walker.proofs.Laws.Pieces.{lf_here, lf-other}
use Rattle.carry.proofs.keep.absorb.Goals as goal

pub loop-i-init : goal.loop-i-init
loop-i-init c = (refl, refl)

pub returns-then-b-eq10 : goal.returns-then-b-eq10
returns-then-b-eq10 c =
    let f = c.args.part.now in
    let i = c.loop-i.i in
    let l = c.loop-i-test.true in
    record {
      state = absorb_here f i _ _ c.loop-i.invariant.0 l c.if-b-eq10.true;
      offset = omega (arith, lf_here f i l c.if-b-eq10.true, c.loop-i.invariant.1);
    }

pub loop-i-preserved : goal.loop-i-preserved
loop-i-preserved c =
    let f = c.args.part.now in
    let i = c.loop-i.i in
    let l = c.loop-i-test.true in
    let n = c.if-b-eq10.false in (
      absorb_next f i _ _ c.loop-i.invariant.0 _ l n
          (keep-made c.loop-i.total _ _ _ c.loop-i.cr _ _ c.keep_byte-total.ensures.0 c.keep_byte-total.ensures.1),
      omega (arith, lf-other f i l n, c.loop-i.invariant.1),
    )

pub returns : goal.returns
returns c =
    let f = c.args.part.now in
    let i = c.loop-i.i in
    let l = c.loop-i-test.false in
    record {
      state = absorb_none f i _ _ c.loop-i.invariant.0 l;
      offset = c.max.ensures ∙ ended-at f c.args.at i l c.loop-i.auto.i-end c.loop-i.invariant.1;
    }
