-- Every byte of a written line is below 128.
-- Assumes nothing.
use mathlib.Core.Path.{◌≡◌, refl, ap}
use Prim.Native.Nat.{ℕ, zero, suc, ◌+◌, ◌-◌, ◌/◌, ◌%◌, ◌<◌}
use native.Mathlib.Omega.{arith}
use borrow.Author.Tests.{ltb-true, lt-ltb, leb-true}
use mathlib.Core.Bool.{Bool, true, false, cond, ◌&&◌}
use mathlib.Core.List.{List, [], ◌∷◌, ◌++◌}
use lib.ListN.{length}
use lib.Dec.{leb, ltb, eqb}
use lib.IntN.{ℤ, pos, negsuc}
use lib.Ieee.{Float}
use Rattle.std.specs.Prelude.{Option, Some, None}
use Rattle.page.specs.Numerals.{decimal_before, decimal, signed_decimal}
use Rattle.page.proofs.Laws.Lists.{Between}
use Rattle.number.specs.Whole.{with_sign}
use Rattle.number.proofs.Laws.Choice.{and_left, and_right}
use Rattle.lexer.specs.Refusals.{plain}
use Rattle.cell.specs.Cell.{fitting, texted, real_bytes, factor_bytes}
use Rattle.cell.specs.Places.{places_of}
use Rattle.cell.specs.Text.{blanks, right, fixed}
use Rattle.cell.specs.Words.{printable, left, words_fit, words_bytes, lent_fits, lent_bytes, charge_text, flag_text, row_bytes}
use Rattle.cell.specs.declared.places.Rounded.{Rounded}
use Rattle.cell.proofs.Laws.Places.{placed, places-few}
use Rattle.cell.proofs.Laws.Text.{fixed-between}
use Rattle.sheet.specs.Ink.{Ink, figure_bytes}
use Rattle.sheet.specs.Sheet.{Cell, ◌holds◌, Sheet, columns_of, cell_bytes, cells_from, line_of}
use Rattle.sheet.specs.declared.Figure.{Figure}
use Rattle.sheet.specs.declared.Figure.TheVariants as figures

abbrev pub Low : List ℕ → Type 0
Low t = plain t ≡ length t

low-next : (b : ℕ) (t : List ℕ) → b < 128 → Low t → Low (b ∷ t)
unfolding plain
low-next b t h k = rw (lt-ltb b 128 h, k) refl

none-low : Low []
unfolding plain
none-low = refl

low-append : (s t : List ℕ) → Low s → Low t → Low (s ++ t)
unfolding plain
low-append [] t h k = k
low-append (b ∷ s) t h k = go (ltb b 128) h (low-append s t)
  where
    go : (x : Bool) → cond x (suc (plain s)) 0 ≡ suc (length s) → (Low s → Low t → Low (s ++ t))
        → cond x (suc (plain (s ++ t))) 0 ≡ suc (length (s ++ t))
    go true e more = ap suc (more (omega arith) k)
    go false e more = absurd (omega arith)

-- ---- what stands in a field
blanks-low : (k : ℕ) → Low (blanks k)
unfolding blanks
blanks-low zero = none-low
blanks-low (suc k) = low-next 32 (blanks k) (omega arith) (blanks-low k)

between-low : (a b : ℕ) (t : List ℕ) → b < 128 → Between a b t → Low t
between-low a b [] h w = none-low
between-low a b (x ∷ t) h w = low-next x t (omega (arith, w.0.1)) (between-low a b t h w.1)

printable-low : (t : List ℕ) → printable t ≡ true → Low t
unfolding printable
printable-low [] e = none-low
printable-low (b ∷ t) e =
    let front = and_left (leb 32 b && leb b 126) (printable t) e in
    low-next b t (omega (arith, leb-true b 126 (and_right (leb 32 b) (leb b 126) front)))
    (printable-low t (and_right (leb 32 b && leb b 126) (printable t) e))

digits_low : (k n : ℕ) (t : List ℕ) → Low t → Low (decimal_before k n t)
unfolding decimal_before
digits_low zero n t h = h
digits_low (suc k) n t h = go (ltb n 10) refl (digits_low k (n / 10) ((48 + n % 10) ∷ t) (low-next (48 + n % 10) t (omega arith) h))
  where
    go : (b : Bool) → ltb n 10 ≡ b → Low (decimal_before k (n / 10) ((48 + n % 10) ∷ t))
        → Low (cond b ((48 + n) ∷ t) (decimal_before k (n / 10) ((48 + n % 10) ∷ t)))
    go true e more = low-next (48 + n) t (omega (arith, ltb-true n 10 e)) h
    go false e more = more

decimal-low : (n : ℕ) → Low (decimal n)
unfolding decimal
decimal-low n = digits_low 20 n [] none-low

signed_low : (z : ℤ) → Low (signed_decimal z)
unfolding signed_decimal
signed_low (pos n) = decimal-low n
signed_low (negsuc n) = low-next 45 (decimal (suc n)) (omega arith) (decimal-low (suc n))

one-low : (b : ℕ) → b < 128 → Low (b ∷ [])
one-low b h = low-next b [] h none-low

charge-low : (z : ℤ) → Low (charge_text z)
unfolding charge_text
charge-low (pos zero) = none-low
charge-low (pos (suc n)) = low-append (decimal (suc n)) (43 ∷ []) (decimal-low (suc n)) (one-low 43 (omega arith))
charge-low (negsuc n) = low-append (decimal (suc n)) (45 ∷ []) (decimal-low (suc n)) (one-low 45 (omega arith))

flag-low : (b : Bool) → Low (flag_text b)
flag-low true = one-low 49 (omega arith)
flag-low false = none-low

-- ---- in its columns
chosen-low : (w : ℕ) (t : List ℕ) (fits : Bool) → (fits ≡ true → Low t) → Low (cond fits t (blanks w))
chosen-low w t true h = h refl
chosen-low w t false h = blanks-low w

module _ (w : ℕ) (t : List ℕ) where
  side_low : (isLeft : Bool) → Low t → Low (cond isLeft (left w t) (right w t))
  unfolding left right
  side_low true h = low-append t (blanks (w - length t)) h (blanks-low (w - length t))
  side_low false h = low-append (blanks (w - length t)) t (blanks-low (w - length t)) h

  texted-low : Low t → Low (texted w t)
  unfolding texted
  texted-low h = chosen-low w (right w t) (fitting w t) (λ e. side_low false h)

  words-low : (isLeft : Bool) → Low (words_bytes isLeft w t)
  unfolding words_bytes words_fit
  words-low isLeft =
      chosen-low w (cond isLeft (left w t) (right w t)) (fitting w t && printable t)
      (λ e. side_low isLeft (printable-low t (and_right (fitting w t) (printable t) e)))

  lent-low : Low (lent_bytes w t)
  unfolding lent_bytes lent_fits
  lent-low = chosen-low w t (eqb (length t) w && printable t) (λ e. printable-low t (and_right (eqb (length t) w) (printable t) e))

real-low : (w q : ℕ) (x : Float) (p : Option Rounded) → places_of q x ≡ p → Low (real_bytes w q p)
real-low w q x (Some r) e =
    let t = fixed q r.minus r.digits in
    let (long, rounds) = placed q x r.minus r.digits e in
    texted-low w t (between-low 45 57 t (omega arith) (fixed-between q r.minus r.digits (places-few q x r.minus r.digits rounds)))
real-low w q x None e = blanks-low w

factor-low : (w : ℕ) (p : Option Rounded) → Low (factor_bytes w p)
factor-low w (Some r) =
    texted-low w (signed_decimal (with_sign r.minus r.digits)) (signed_low (with_sign r.minus r.digits))
factor-low w None = blanks-low w

row_low : (w row : ℕ) → Low (row_bytes w row)
unfolding row_bytes
row_low w row =
    chosen-low w (texted w ((49 + row) ∷ [])) (ltb row 3)
    (λ e. texted-low w ((49 + row) ∷ []) (one-low (49 + row) (omega (arith, ltb-true row 3 e))))

figure-low : (w : ℕ) (f : Figure) → Low (figure_bytes w f)
figure-low w (figures.Unsigned n) = texted-low w (decimal n) (decimal-low n)
figure-low w (figures.Signed z) = texted-low w (signed_decimal z) (signed_low z)
figure-low w (figures.Real q x) = real-low w q x (places_of q x) refl
figure-low w (figures.Factor x) = factor-low w (places_of 4 x)
figure-low w (figures.Charge z) = texted-low w (charge_text z) (charge-low z)
figure-low w (figures.Given b) = texted-low w (flag_text b) (flag-low b)
figure-low w (figures.Row n) = row_low w n

cell-low : (c : Cell) → Low (cell_bytes c)
cell-low (at holds Ink.figure f) = figure-low (at.end - at.start) f
cell-low (at holds Ink.words isLeft t) = words-low (at.end - at.start) t isLeft
cell-low (at holds Ink.lent t) = lent-low (at.end - at.start) t
cell-low (at holds Ink.other) = blanks-low (at.end - at.start)

-- ---- the line
cells_low : (column : ℕ) (cells : List Cell) → Low (cells_from column cells)
unfolding cells_from
cells_low column [] = blanks-low (80 - column)
cells_low column (c ∷ rest) =
    let gap = blanks ((columns_of c).start - column) in
    let more = cells_from (columns_of c).end rest in
    low-append gap (cell_bytes c ++ more) (blanks-low ((columns_of c).start - column)) (low-append (cell_bytes c) more (cell-low c) (cells_low (columns_of c).end rest))

pub line_low : (s : Sheet) → Low s.name → Low (line_of s)
unfolding line_of
line_low s h = low-append s.name (cells_from (length s.name) s.cells) h (cells_low (length s.name) s.cells)
