-- Texts in so many columns. "Segment names and space groups go left-aligned, all else right-aligned; charge 0 is two blanks. A text doesn't fit its
-- columns (a C not absent is one byte, the lent name four) or a text byte is outside 32 to 126": then blanks stand there.
use Rattle.std.specs.Prelude.{ℕ, zero, suc, ◌+◌, ◌-◌, Bool, true, false, cond, ◌&&◌, List, [], ◌∷◌, ◌++◌, length, leb, ltb, eqb, ℤ, pos, negsuc}
use Rattle.page.specs.Numerals.{decimal}
use Rattle.cell.specs.Cell.{fitting, texted}
use Rattle.cell.specs.Text.{blanks, right}

unfoldable pub printable : List ℕ → Bool
printable [] = true
printable (b ∷ t) = leb 32 b && leb b 126 && printable t

-- a text at the left of w columns
unfoldable pub left : ℕ → List ℕ → List ℕ
left w t = t ++ blanks (w - length t)

-- ---- a text at its side, left or right; a C is one in a column of its own, and shows a blank if it has no byte
unfoldable pub words_fit : ℕ → List ℕ → Bool
words_fit w t = fitting w t && printable t

unfoldable pub words_bytes : Bool → ℕ → List ℕ → List ℕ
words_bytes isLeft w t = cond (words_fit w t) (cond isLeft (left w t) (right w t)) (blanks w)

-- ---- a text that fills its columns, as the lent name does
unfoldable pub lent_fits : ℕ → List ℕ → Bool
lent_fits w t = eqb (length t) w && printable t

unfoldable pub lent_bytes : ℕ → List ℕ → List ℕ
lent_bytes w t = cond (lent_fits w t) t (blanks w)

-- ---- a charge: a digit, then `+` or `-`
unfoldable pub charge_text : ℤ → List ℕ
charge_text (pos zero) = []
charge_text (pos (suc n)) = decimal (suc n) ++ 43 ∷ []
charge_text (negsuc n) = decimal (suc n) ++ 45 ∷ []

-- ---- given is `1` or a blank
abbrev pub flag_text : Bool → List ℕ
flag_text true = 49 ∷ []
flag_text false = []

-- ---- the row of SCALE, ORIGX and MTRIX: 0 to 2, written `1` to `3`
unfoldable pub row_fits_of : ℕ → ℕ → Bool
row_fits_of w row = ltb row 3 && fitting w ((49 + row) ∷ [])

unfoldable pub row_bytes : ℕ → ℕ → List ℕ
row_bytes w row = cond (ltb row 3) (texted w ((49 + row) ∷ [])) (blanks w)
