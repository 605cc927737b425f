-- `wording::word::signed_word` meets its contract: a number's bits are its word.
-- Assumes nothing.
use mathlib.Core.Path.{◌≡◌, refl, ◌∙◌}
use lib.IntN.{ℤ, pos, negsuc}
use mir.Syntax.{w64}
use mir.Val.{of_z}
use mir.Facts.{to_z-of_z}
use Rattle.wording.specs.Fields.{twos}
use Rattle.wording.proofs.word.signed_word.Goals as goal

bits_are : (z : ℤ) → of_z w64 z ≡ twos z
bits_are (pos n) = refl
bits_are (negsuc n) = refl

pub returns : goal.returns
returns c = (rw (to_z-of_z {w = w64} c.ranges.n) at c.cast_unsigned.ensures) ∙ bits_are c.args.n
