-- `cell::places::scaled` meets its contract: the two parts of the product decide as the definition does.
-- Assumes nothing.
use Prim.Native.Nat.{◌-◌, ◌*◌}
use mathlib.Core.Path.{ap, ◌∙◌}
use native.Mathlib.Omega.{arith}
use Rattle.cell.specs.Places.{within}
use Rattle.cell.proofs.Laws.Scaled.{low_small, part_small, quotient_small, half-small, scaled-below, scaled-above, scaled-more, scaled-tie}
use Rattle.cell.proofs.places.scaled.Goals as goal

pub overflow_mul-low : goal.overflow_mul-low
overflow_mul-low c = omega (arith, low_small c.args.digits c.args.power c.requires.digits_bound c.requires.power_bound)

pub overflow_mul-high : goal.overflow_mul-high
overflow_mul-high c = omega (arith, part_small c.args.digits c.args.power c.requires.digits_bound c.requires.power_bound)

pub overflow_add-high : goal.overflow_add-high
overflow_add-high c = omega (arith, low_small c.args.digits c.args.power c.requires.digits_bound c.requires.power_bound, part_small c.args.digits c.args.power c.requires.digits_bound c.requires.power_bound)

pub overflow_mul-unit : goal.overflow_mul-unit
overflow_mul-unit c = let h = half-small (c.args.shift - 17) c.two-half.result c.two-half.ensures (omega arith) in omega arith

pub nonzero_div-n : goal.nonzero_div-n
nonzero_div-n c = let h = half-small (c.args.shift - 17) c.two-half.result c.two-half.ensures (omega arith) in omega arith

pub nonzero_rem-r : goal.nonzero_rem-r
nonzero_rem-r c = let h = half-small (c.args.shift - 17) c.two-half.result c.two-half.ensures (omega arith) in omega arith

pub returns-then-r-half : goal.returns-then-r-half
returns-then-r-half c = c.within.ensures ∙ ap (within _) (scaled-below c.args.digits c.args.power c.args.shift c.two-half.result c.two-half.ensures c.requires.le_shift c.if-r-half.true)

pub overflow_add-n : goal.overflow_add-n
overflow_add-n c = let q = quotient_small c.args.digits c.args.power c.requires.digits_bound c.requires.power_bound (c.two-half.result * 2) in omega arith

pub returns-then-half-r : goal.returns-then-half-r
returns-then-half-r c = c.within-then-half-r.ensures ∙ ap (within _) (scaled-above c.args.digits c.args.power c.args.shift c.two-half.result c.two-half.ensures c.requires.le_shift c.if-half-r.true)

pub overflow_add-n-then-low-ne0 : goal.overflow_add-n-then-low-ne0
overflow_add-n-then-low-ne0 c = let q = quotient_small c.args.digits c.args.power c.requires.digits_bound c.requires.power_bound (c.two-half.result * 2) in omega arith

pub returns-then-low-ne0 : goal.returns-then-low-ne0
returns-then-low-ne0 c =
    c.within-then-low-ne0.ensures
    ∙ ap (within _) (scaled-more c.args.digits c.args.power c.args.shift c.two-half.result c.two-half.ensures c.requires.le_shift c.if-r-half.false c.if-half-r.false c.if-low-ne0.true)

pub overflow_add-n-2 : goal.overflow_add-n-2
overflow_add-n-2 c = let q = quotient_small c.args.digits c.args.power c.requires.digits_bound c.requires.power_bound (c.two-half.result * 2) in omega arith

pub returns : goal.returns
returns c = rw (← (scaled-tie c.args.digits c.args.power c.args.shift c.two-half.result c.two-half.ensures c.requires.le_shift c.if-r-half.false c.if-half-r.false c.if-low-ne0.false)) c.within-2.ensures
