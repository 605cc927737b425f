-- `cell::places::round_few` meets its contract: what the bits of a double say of it in so many places.
-- Assumes nothing.
use Prim.Native.Nat.{◌^◌, ◌<◌}
use mathlib.Core.Path.{◌≡◌, ◌∙◌}
use mathlib.Core.Bool.{true}
use lib.Dec.{T}
use lib.Ieee.{Float, binary64, fits}
use native.Mathlib.Omega.{arith}
use Rattle.cell.proofs.Laws.Bits.{nan_none, no_nan, five_small, bits_large, bits_small, bits_middle}
use Rattle.cell.proofs.places.round_few.Goals as goal

fitting : (x : Float) → fits binary64 x ≡ true → T (fits binary64 x)
fitting x h = rw h tt

pub returns-then-x : goal.returns-then-x
returns-then-x c = nan_none c.args.places c.args.x c.if-x.true

pub float_to_bits-bits : goal.float_to_bits-bits
float_to_bits-bits c = no_nan c.args.x c.if-x.false

pub returns-then-least-field : goal.returns-then-least-field
returns-then-least-field c = bits_large c.args.places c.args.x (fitting _ c.well_formed.0.1) c.requires c.if-least-field.true

pub returns-then-field-least : goal.returns-then-field-least
returns-then-field-least c = bits_small c.args.places c.args.x (fitting _ c.well_formed.0.1) c.requires c.if-field-least.true

pub pow-requires : goal.pow-requires
pow-requires c = omega (arith, five_small c.args.places c.requires)

pub scaled-requires : goal.scaled-requires
scaled-requires c =
    let q = c.args.places in
    let f : c.pow.result < 2 ^ 21 = rw c.pow.ensures (five_small q c.requires) in
    record { digits_bound = omega arith; power_bound = f; le_shift = omega arith; shift_bound = omega arith }

pub returns : goal.returns
returns c =
    c.scaled.ensures
    ∙ rw c.pow.ensures (bits_middle c.args.places c.args.x (fitting _ c.well_formed.0.1) c.requires c.if-least-field.false c.if-field-least.false)
