-- A number in so many columns. "A number (NaN and infinities too) .. doesn't fit its columns": then blanks stand there, and it is told.
use Rattle.std.specs.Prelude.{ℕ, ◌≡◌, Bool, false, cond, List, length, leb, Option, Some, None}
use Rattle.number.specs.Whole.{with_sign}
use Rattle.page.specs.Numerals.{signed_decimal}
use Rattle.page.specs.Page.{Page, page, put}
use Rattle.cell.specs.Text.{blanks, right, fixed}
use Rattle.cell.specs.declared.Put.{Put}
use Rattle.cell.specs.declared.places.Rounded.{Rounded}

-- ---- a text in w columns
unfoldable pub fitting : ℕ → List ℕ → Bool
fitting w t = leb (length t) w

unfoldable pub texted : ℕ → List ℕ → List ℕ
texted w t = cond (fitting w t) (right w t) (blanks w)

-- ---- a real of q places in w columns
abbrev pub real_fits : ℕ → ℕ → Option Rounded → Bool
real_fits w q (Some r) = fitting w (fixed q r.minus r.digits)
real_fits w q None = false

abbrev pub real_bytes : ℕ → ℕ → Option Rounded → List ℕ
real_bytes w q (Some r) = texted w (fixed q r.minus r.digits)
real_bytes w q None = blanks w

-- ---- "ANISOU goes out at four places without the point, its zeros always as `0`"
abbrev pub factor_fits : ℕ → Option Rounded → Bool
factor_fits w (Some r) = fitting w (signed_decimal (with_sign r.minus r.digits))
factor_fits w None = false

abbrev pub factor_bytes : ℕ → Option Rounded → List ℕ
factor_bytes w (Some r) = texted w (signed_decimal (with_sign r.minus r.digits))
factor_bytes w None = blanks w

-- ---- what a put answers
-- bytes were put on a page, and it is told whether they are those of the value
pub record Puts (before : Page) (bytes : List ℕ) (fit : Bool) (after : List ℕ) (r : Put) : Type 0 where
  pub puts : page after r.next ≡ put before bytes
  pub tells : r.fits ≡ fit
