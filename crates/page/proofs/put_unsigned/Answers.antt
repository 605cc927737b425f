-- `page::put_unsigned` meets its contract. The loop's invariant: the digits of the rest in front of those gathered are the number's, and
-- the rest has at most as many digits as there is room.
-- Assumes nothing.
use Prim.Native.Nat.{◌+◌, ◌-◌}
use mathlib.Core.Path.{ap, ◌∙◌}
use native.Mathlib.Omega.{arith}
use lib.ListN.{set, length-set}
use Rattle.page.proofs.Laws.Decimal.{decimal-more, decimal-last, tenth-below, two_digits}
use Rattle.page.proofs.Laws.Lists.{rest_from}
use Rattle.page.specs.Page.{put}
use Rattle.page.specs.Numerals.{decimal_before, decimal}
use borrow.Author.Rules.{rules}
use Rattle.page.proofs.put_unsigned.Goals as goal

pub loop-rest-init : goal.loop-rest-init
unfolding decimal_before decimal
loop-rest-init c = search rules

pub loop-rest-preserved : goal.loop-rest-preserved
loop-rest-preserved c =
    let l = c.loop-rest in
    let two = two_digits l.i l.rest l.invariant.3 c.loop-rest-test.true in (
      omega arith,
      omega arith,
      search rules,
      tenth-below l.i l.rest l.invariant.0 l.invariant.3,
      decimal-more l.text l.i l.rest l.invariant.0 (omega arith) c.loop-rest-test.true ∙ l.invariant.4,
    )

pub slice_bounds-put_bytes-end : goal.slice_bounds-put_bytes-end
slice_bounds-put_bytes-end c =
    let l = c.loop-rest in
    let e = length-set l.text (l.i - 1) (48 + l.rest) in
    omega arith

pub returns : goal.returns
returns c =
    let l = c.loop-rest in
    let text = set l.text (l.i - 1) (48 + l.rest) in
    let e = length-set l.text (l.i - 1) (48 + l.rest) in
    let rest = rest_from (l.i - 1) (20 - (l.i - 1)) text (omega arith) in
    let last = decimal-last l.text l.i l.rest l.invariant.0 (omega arith) c.loop-rest-test.false in
    c.put_bytes.ensures ∙ ap (put _) (rest ∙ last ∙ l.invariant.4)
