-- "Work each one out by multiplying by ten as a whole number and converting once" (2026-04, of the powers 10^0 to 10^9), and "bytes `-0` give
-- negative zero": the double is one division of M by a power of ten, with the sign put on.
use Rattle.std.specs.Prelude.{ℕ, ◌^◌, Bool, true, false, pos, Float}
use Rattle.std.specs.Float.{binary64}
use Rattle.std.specs.Float.Ieee.{div, neg, of_int}

-- a double with its sign put on: a minus turns it, zero too
abbrev pub sign_put : Bool → Float → Float
sign_put false x = x
sign_put true x = neg x

-- the double of the written number M over 10 ^ p, behind a minus or not
unfoldable pub double_of : Bool → ℕ → ℕ → Float
double_of minus m p = sign_put minus (div binary64 (of_int binary64 (pos m)) (of_int binary64 (pos (10 ^ p))))
