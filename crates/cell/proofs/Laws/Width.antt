-- Every cell fills its columns, whatever it holds and whether that fits.
--     blanks-width, texted-width                blanks, and a text at the right
--     real-width, factor-width                  a real, and one of ANISOU's six
--     words-width, lent-width, row-width        a text at its side, one that fills its columns, and a row
-- Assumes nothing.
use mathlib.Core.Path.{◌≡◌, refl, ap}
use Prim.Native.Nat.{ℕ, zero, suc, ◌+◌, ◌-◌, ◌≤◌}
use native.Mathlib.Omega.{arith}
use mathlib.Core.Bool.{Bool, true, false, cond}
use mathlib.Core.List.{List, [], ◌∷◌}
use borrow.Author.Tests.{leb-true, eqb-true}
use lib.ListN.{length, length-append}
use lib.Dec.{eqb, ltb}
use Rattle.std.specs.Prelude.{Option, Some, None}
use Rattle.number.specs.Whole.{with_sign}
use Rattle.number.proofs.Laws.Choice.{and_left}
use Rattle.page.specs.Numerals.{signed_decimal}
use Rattle.cell.specs.Cell.{fitting, texted, real_bytes, factor_bytes}
use Rattle.cell.specs.Text.{blanks, right, fixed}
use Rattle.cell.specs.Words.{printable, left, words_fit, words_bytes, lent_fits, lent_bytes, row_bytes}
use Rattle.cell.specs.declared.places.Rounded.{Rounded}

pub blanks-width : (w : ℕ) → length (blanks w) ≡ w
unfolding blanks
blanks-width zero = refl
blanks-width (suc w) = ap suc (blanks-width w)

-- what fits stands there, and else blanks do
chosen-width : (w : ℕ) (t : List ℕ) (fits : Bool) → (fits ≡ true → length t ≡ w) → length (cond fits t (blanks w)) ≡ w
chosen-width w t true h = h refl
chosen-width w t false h = blanks-width w

-- ---- a text at its side
module _ (w : ℕ) (t : List ℕ) where
  fit : fitting w t ≡ true → length t ≤ w
  unfolding fitting
  fit e = leb-true (length t) w e

  right-width : length t ≤ w → length (right w t) ≡ w
  unfolding right
  right-width h = omega (arith, length-append (blanks (w - length t)) t, blanks-width (w - length t))

  left-width : length t ≤ w → length (left w t) ≡ w
  unfolding left
  left-width h = omega (arith, length-append t (blanks (w - length t)), blanks-width (w - length t))

  side_width : (isLeft : Bool) → length t ≤ w → length (cond isLeft (left w t) (right w t)) ≡ w
  side_width true h = left-width h
  side_width false h = right-width h

  pub texted-width : length (texted w t) ≡ w
  unfolding texted
  texted-width = chosen-width w (right w t) (fitting w t) (λ e. right-width (fit e))

  words-fit : words_fit w t ≡ true → length t ≤ w
  unfolding words_fit
  words-fit e = fit (and_left (fitting w t) (printable t) e)

  lent-fit : lent_fits w t ≡ true → length t ≡ w
  unfolding lent_fits
  lent-fit e = eqb-true (length t) w (and_left (eqb (length t) w) (printable t) e)

  pub lent-width : length (lent_bytes w t) ≡ w
  unfolding lent_bytes
  lent-width = chosen-width w t (lent_fits w t) lent-fit

pub words-width : (isLeft : Bool) (w : ℕ) (t : List ℕ) → length (words_bytes isLeft w t) ≡ w
unfolding words_bytes
words-width isLeft w t =
    chosen-width w (cond isLeft (left w t) (right w t)) (words_fit w t) (λ e. side_width w t isLeft (words-fit w t e))

-- ---- numbers
pub real-width : (w q : ℕ) (p : Option Rounded) → length (real_bytes w q p) ≡ w
real-width w q (Some r) = texted-width w (fixed q r.minus r.digits)
real-width w q None = blanks-width w

pub factor-width : (w : ℕ) (p : Option Rounded) → length (factor_bytes w p) ≡ w
factor-width w (Some r) = texted-width w (signed_decimal (with_sign r.minus r.digits))
factor-width w None = blanks-width w

pub row-width : (w row : ℕ) → length (row_bytes w row) ≡ w
unfolding row_bytes
row-width w row = chosen-width w (texted w ((49 + row) ∷ [])) (ltb row 3) (λ e. texted-width w ((49 + row) ∷ []))
