-- Laws of a number in so many columns.
--     puts-fit, puts_not     what a put of a text answers, by the text's length
--     cell-back              a double that was read of M over 10 ^ p, with no more places than are written, reads back as the same double
--     cell-own               in as many places as it was read with, the digits themselves fit, and the cell says the same sign, M and p
--     factor-cell            one of ANISOU's six reads back as the same integer
--     factor-zero            its zero is written `0`, whatever its sign
--     factor-none, -some     its digits are those of a decimal without places, and a zero's have no sign
--     cell-again             what is read of any double's cell is written as the same cell
-- Assumes nothing.
use mathlib.Core.Path.{◌≡◌, refl, sym, ◌∙◌}
use Prim.Native.Nat.{ℕ, zero, suc, ◌-◌, ◌*◌, ◌^◌, ◌≤◌, ◌<◌}
use mathlib.Core.Bool.{Bool, true, false}
use mathlib.Core.List.{List, [], ◌∷◌}
use borrow.Author.Tests.{le-leb, lt-leb, leb-true}
use native.Mathlib.Omega.{arith}
use lib.ListN.{length}
use lib.Dec.{leb, lit≤}
use lib.IntN.{ℤ, pos, negsuc, nat_abs}
use lib.Ieee.{Float}
use Rattle.std.specs.Prelude.{Some}
use Rattle.page.specs.Numerals.{decimal_before, decimal, signed_decimal}
use Rattle.number.specs.Whole.{with_sign, signed_of}
use Rattle.number.specs.Decimal.{plain, decimal_of}
use Rattle.real.specs.Double.{double_of}
use Rattle.real.specs.Real.{real, real_of, ten_thousandth}
use Rattle.real.specs.Sign.{below}
use Rattle.page.specs.Page.{Page, page, put}
use Rattle.cell.specs.Cell.{fitting, texted, real_fits, real_bytes, factor_bytes, Puts}
use Rattle.cell.specs.declared.Put.{Put}
use Rattle.cell.specs.Places.{rounded, places_of}
use Rattle.cell.specs.Text.{blanks, right, pointed, fixed}
use Rattle.cell.proofs.Laws.Back.{signed_back, factor-back}
use Rattle.cell.proofs.Laws.Places.{placed, places_are, places-own}
use Rattle.cell.proofs.Laws.Text.{fixed-read, real-back, real-again}

module _ (p : Page) (w : ℕ) (t : List ℕ) (next : ℕ) (after : List ℕ) where
  pub puts-fit : length t ≤ w → page after next ≡ put p (right w t) → Puts p (texted w t) (fitting w t) after (record { next = next; fits = true })
  unfolding texted fitting
  puts-fit h e = record { puts = rw (le-leb (length t) w h) e; tells = sym (le-leb (length t) w h) }

pub puts_not : {p : Page} {w : ℕ} (t : List ℕ) {after : List ℕ} {r : Put} → w < length t → Puts p (blanks w) false after r
    → Puts p (texted w t) (fitting w t) after r
unfolding texted fitting
puts_not {w = w} t h e = rw (lt-leb (length t) w h) e

-- ---- a real that was written is read
pub cell-back : (s : Bool) (m p q w : ℕ) → m < 10 ^ 10 → p ≤ q → q ≤ 9 → m * 10 ^ (q - p) < 10 ^ 10
    → length (fixed q s (m * 10 ^ (q - p))) ≤ w → w ≤ 10 → real_of (real_bytes w q (places_of q (double_of s m p))) ≡ Some (real (double_of s m p) q)
unfolding places_of texted fitting
cell-back s m p q w few short long fit h k =
    let (rounded, read) = real-back s m p q w few short long fit h k in
    rw (le-leb q 9 long, rounded, le-leb (length (fixed q s (m * 10 ^ (q - p)))) w h) read

pub cell-own : (s : Bool) (m p w : ℕ) → m < 10 ^ 10 → p ≤ 9 → real_fits w p (places_of p (double_of s m p)) ≡ true → w ≤ 10
    → (length (fixed p s m) ≤ w) × (decimal_of (real_bytes w p (places_of p (double_of s m p))) ≡ Some (plain s m p))
unfolding fitting texted
cell-own s m p w few long f k =
    let own : places_of p (double_of s m p) ≡ Some (rounded s m) = places_are p (double_of s m p) long ∙ places-own s m p few long in
    let fit : leb (length (fixed p s m)) w ≡ true = rw own at f in
    let short = leb-true (length (fixed p s m)) w fit in
    (short, rw (own, fit) (fixed-read p s m few w short k))

pub cell-again : (q w : ℕ) (x : Float) (s : Bool) (n : ℕ) → places_of q x ≡ Some (rounded s n) → fitting w (fixed q s n) ≡ true → w ≤ 10
    → (real_of (real_bytes w q (places_of q x)) ≡ Some (real (double_of s n q) q)) × (places_of q (double_of s n q) ≡ places_of q x)
unfolding fitting texted
cell-again q w x s n e f k =
    let (long, rounded) = placed q x s n e in
    let (read, again) = real-again q x s n w long rounded (leb-true (length (fixed q s n)) w f) k in
    rw e (rw f read, places_are q (double_of s n q) long ∙ again)

-- ---- an integer of so many places
pub factor-none : (s : Bool) (n : ℕ) → n ≡ 0 → fixed 0 false n ≡ signed_decimal (with_sign s n)
unfolding fixed pointed signed_decimal
factor-none false n e = refl
factor-none true n e = rw e refl

pub factor-some : (s : Bool) (n : ℕ) → (n ≡ 0 → ⊥) → fixed 0 s n ≡ signed_decimal (with_sign s n)
unfolding fixed pointed signed_decimal
factor-some false n some = refl
factor-some true zero some = absurd (some refl)
factor-some true (suc n) some = refl

-- "its zeros always as `0`", those too that were rounded from below
pub factor-zero : (w : ℕ) (s : Bool) → factor_bytes w (Some (rounded s 0)) ≡ texted w (48 ∷ [])
unfolding signed_decimal decimal decimal_before
factor-zero w false = refl
factor-zero w true = refl

sign-is : (z : ℤ) → with_sign (below z) (nat_abs z) ≡ z
sign-is (pos n) = refl
sign-is (negsuc n) = refl

pub factor-cell : (w : ℕ) (z : ℤ) → nat_abs z < 10 ^ 10 → fitting w (signed_decimal z) ≡ true
    → signed_of (factor_bytes w (places_of 4 (ten_thousandth z))) ≡ Some z
unfolding texted
factor-cell w z few fit = rw (places_are 4 (ten_thousandth z) (lit≤ tt), factor-back z few, sign-is z, fit) (signed_back w z (omega arith))
