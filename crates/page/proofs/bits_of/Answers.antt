-- `page::bits_of` meets its contract: the bits of a NaN are those of the one NaN that there is.
-- Assumes nothing.
use mathlib.Core.Path.{◌≡◌, refl, sym, ◌∙◌}
use lib.Ieee.{Float, nan, inf, fin, is_nan, binary64, to_bits}
use mathlib.Core.Bool.{true}
use Rattle.page.proofs.bits_of.Goals as goal

nan_bits : (x : Float) → is_nan x ≡ true → 0x7FF8_0000_0000_0000 ≡ to_bits binary64 x
unfolding is_nan to_bits
nan_bits nan h = refl
nan_bits (inf s) h = cc
nan_bits (fin s m e) h = cc

pub returns-then-is_nan : goal.returns-then-is_nan
returns-then-is_nan c = nan_bits _ (sym c.is_nan.ensures.value ∙ c.if-is_nan.true)
