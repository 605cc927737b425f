-- How a text, a charge, a flag and a row are put, by the code's tests.
--     left-full                              a text that fills its columns
--     words_long, -odd, -left, -right        what a put of a text answers
--     lent_other, lent_odd, lent-whole       what a put of a text that is to fill its columns answers
--     row-fit, row_not                       what a put of a row answers
--     charge-below, -above, -none            a charge is a number with its sign behind it
--     marked-front                           such a number on bytes of our own
-- Assumes nothing.
use mathlib.Core.Path.{◌≡◌, refl, ap}
use Prim.Native.Nat.{ℕ, zero, suc, ◌+◌, ◌-◌, ◌^◌, ◌≤◌, ◌<◌}
use native.Mathlib.Numerals.{add-one}
use native.Mathlib.Omega.{arith}
use mathlib.Core.Bool.{Bool, true, false}
use mathlib.Core.List.{List, [], ◌∷◌, ◌++◌, append-nil}
use borrow.Author.Tests.{ltb-true, ltb-false, lt-ltb, le-ltb, le-leb, lt-leb, eq-eqb, ne_eqb}
use lib.ListN.{length, drop, get_or, drop_of_length-le, length-append}
use lib.Seq.{drop-cons}
use lib.IntN.{ℤ, pos, negsuc, nat_abs}
use lib.Signed.{lt_z}
use Rattle.page.specs.Numerals.{signed_decimal}
use Rattle.page.proofs.Laws.Signed.{signed-length}
use Rattle.page.proofs.Laws.Page.{put_then}
use Rattle.cell.proofs.Laws.Put.{Front, front}
use Rattle.page.specs.Page.{Page, page, put}
use Rattle.cell.specs.Cell.{fitting, texted, Puts}
use Rattle.cell.specs.Text.{blanks, right}
use Rattle.cell.specs.Words.{printable, left, words_fit, words_bytes, lent_fits, lent_bytes, charge_text, row_fits_of, row_bytes}
use Rattle.cell.specs.declared.Put.{Put}

-- ---- a text at its side
pub left-full : (w : ℕ) (t : List ℕ) → w ≤ length t → left w t ≡ t
unfolding left blanks
left-full w t h = let z : w - length t ≡ 0 = omega arith in rw z (append-nil t)

module _ (p : Page) (isLeft : Bool) (w : ℕ) (t : List ℕ) (after : List ℕ) (r : Put) where
  words_unfit : words_fit w t ≡ false → Puts p (blanks w) false after r → Puts p (words_bytes isLeft w t) (words_fit w t) after r
  unfolding words_bytes
  words_unfit e h = rw e h

  pub words_long : w < length t → Puts p (blanks w) false after r → Puts p (words_bytes isLeft w t) (words_fit w t) after r
  unfolding words_fit fitting
  words_long l h = words_unfit (rw (lt-leb (length t) w l) refl) h

  pub words_odd : length t ≤ w → printable t ≡ false → Puts p (blanks w) false after r → Puts p (words_bytes isLeft w t) (words_fit w t) after r
  unfolding words_fit fitting
  words_odd l o h = words_unfit (rw (le-leb (length t) w l, o) refl) h

  pub words_left : isLeft ≡ true → length t ≤ w → printable t ≡ true → Puts p (left w t) true after r
      → Puts p (words_bytes isLeft w t) (words_fit w t) after r
  unfolding words_bytes words_fit fitting
  words_left s l o h = rw (le-leb (length t) w l, o, s) h

  pub words_right : isLeft ≡ false → length t ≤ w → printable t ≡ true → Puts p (right w t) true after r
      → Puts p (words_bytes isLeft w t) (words_fit w t) after r
  unfolding words_bytes words_fit fitting
  words_right s l o h = rw (le-leb (length t) w l, o, s) h

-- ---- a text that is to fill its columns
module _ (p : Page) (w : ℕ) (t : List ℕ) (after : List ℕ) (r : Put) where
  pub lent_other : (length t ≡ w → ⊥) → Puts p (blanks w) false after r → Puts p (lent_bytes w t) (lent_fits w t) after r
  unfolding lent_bytes lent_fits
  lent_other l h = rw (ne_eqb (length t) w l) h

  pub lent_odd : length t ≡ w → printable t ≡ false → Puts p (blanks w) false after r → Puts p (lent_bytes w t) (lent_fits w t) after r
  unfolding lent_bytes lent_fits
  lent_odd l o h = rw (eq-eqb (length t) w l, o) h

  pub lent-whole : length t ≡ w → printable t ≡ true → Puts p t true after r → Puts p (lent_bytes w t) (lent_fits w t) after r
  unfolding lent_bytes lent_fits
  lent-whole l o h = rw (eq-eqb (length t) w l, o) h

-- ---- a row
module _ (p : Page) (w row : ℕ) (after : List ℕ) (r : Put) where
  pub row-fit : row < 3 → Puts p (texted w ((49 + row) ∷ [])) (fitting w ((49 + row) ∷ [])) after r → Puts p (row_bytes w row) (row_fits_of w row) after r
  unfolding row_bytes row_fits_of
  row-fit h e = rw (lt-ltb row 3 h) e

  pub row_not : 3 ≤ row → Puts p (blanks w) false after r → Puts p (row_bytes w row) (row_fits_of w row) after r
  unfolding row_bytes row_fits_of
  row_not h e = rw (le-ltb row 3 h) e

-- ---- a charge
below : (z : ℤ) → lt_z z (pos 0) ≡ true → drop 1 (signed_decimal z ++ 45 ∷ []) ≡ charge_text z
unfolding charge_text signed_decimal
below (pos n) h = absurd (omega (arith, ltb-true n 0 h))
below (negsuc n) h = refl

above : (z : ℤ) → lt_z (pos 0) z ≡ true → signed_decimal z ++ 43 ∷ [] ≡ charge_text z
unfolding charge_text signed_decimal
above (pos zero) h = absurd (omega (arith, ltb-true 0 0 h))
above (pos (suc n)) h = refl
above (negsuc n) h = let e : ◌≡◌ {A = ℕ} 0 1 = cc in absurd (omega arith)

none : (z : ℤ) → lt_z z (pos 0) ≡ false → lt_z (pos 0) z ≡ false → [] ≡ charge_text z
unfolding charge_text
none (pos zero) h k = refl
none (pos (suc n)) h k = absurd (omega (arith, ltb-false 0 (suc n) k))
none (negsuc n) h k = let e : ◌≡◌ {A = ℕ} 0 1 = cc in absurd (omega arith)

-- by the code's tests; y is the number as the machine reads it back
module _ (z y : ℤ) (back : y ≡ z) where
  pub charge-below : lt_z y (pos 0) ≡ true → drop 1 (signed_decimal y ++ 45 ∷ []) ≡ charge_text z
  charge-below h = rw back (below z (rw back at h))

  pub charge-above : lt_z (pos 0) y ≡ true → signed_decimal y ++ 43 ∷ [] ≡ charge_text z
  charge-above h = rw back (above z (rw back at h))

  pub charge-none : lt_z y (pos 0) ≡ false → lt_z (pos 0) y ≡ false → [] ≡ charge_text z
  charge-none h k = none z (rw back at h) (rw back at k)

-- a number and a mark on twenty-one bytes of our own, which hold them
pub marked-front : (z y : ℤ) (mark : ℕ) (old mid new : List ℕ) (last n : ℕ) → y ≡ z → nat_abs z ≤ 2 ^ 63 → length old ≡ 21
    → page mid last ≡ put (page old 0) (signed_decimal y) → page new n ≡ put (page mid last) (mark ∷ [])
    → (2 ≤ n) × Front new (signed_decimal z ++ mark ∷ []) n
marked-front z y mark old mid new last n back small size e f =
    let few = signed-length z small in
    let count = length-append (signed_decimal z) (mark ∷ []) in
    let g = front old new (signed_decimal z ++ mark ∷ []) n (omega arith) (omega arith)
    (put_then (page old 0) (page mid last) (page new n) (signed_decimal z) (mark ∷ []) (rw back at e) f) in
    (omega (arith, g.counted, ap length g.is), g)
