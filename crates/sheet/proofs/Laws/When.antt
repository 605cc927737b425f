-- When a line is refused, in words of numbers: what the tests of the contracts tell.
--     misfit_tells     a field's test fails exactly when the field doesn't fit
--     written_when     what writing a sheet answers exactly when, and the lent bytes afterwards
--     first_lowest     the first field that doesn't fit is the lowest by column
--     decimal-long     a number has more than w digits exactly when it is 10 ^ w at least
--     charge-long      a charge doesn't fit its two columns exactly when it is above 9 or below -9
-- Assumes nothing.
use mathlib.Core.Path.{◌≡◌, refl, sym, ap, ◌∙◌}
use Prim.Native.Nat.{ℕ, zero, suc, ◌-◌, ◌^◌, ◌≤◌, ◌<◌}
use native.Mathlib.Nat.{le_refl, lt_of_not-le, not-le_of_lt}
use native.Mathlib.Omega.{arith}
use mathlib.Core.Bool.{Bool, true, false, cond, ◌&&◌}
use mathlib.Core.Logic.{◌↔◌, ◌⊎◌, inl, inr, ⊎_elim}
use mathlib.Core.List.Memᴰ
use mathlib.Core.List.{List, [], ◌∷◌, ◌++◌, Memᴰ}
use borrow.Author.Tests.{leb-true, leb-false, ltb-true, ltb-false, eqb-true, eqb-false}
use lib.ListN.{length, length-append}
use lib.Dec.{leb, ltb, eqb}
use lib.IntN.{ℤ, pos, negsuc, nat_abs}
use Rattle.std.specs.Prelude.{Option, Some, None, Ok, Err}
use Rattle.line.specs.declared.columns.Columns.{Columns}
use Rattle.number.specs.Whole.{with_sign}
use Rattle.number.proofs.Laws.Digits.{value-below}
use Rattle.page.specs.Numerals.{decimal, signed_decimal}
use Rattle.page.specs.Said.{decimal_said}
use Rattle.page.proofs.Laws.Decimal.{decimal-short, decimal-says, between}
use Rattle.cell.specs.Cell.{fitting, real_fits, factor_fits}
use Rattle.cell.specs.Places.{places_of}
use Rattle.cell.specs.Text.{fixed}
use Rattle.cell.specs.Words.{printable, words_fit, lent_fits, charge_text, flag_text, row_fits_of}
use Rattle.cell.specs.declared.places.Rounded.{Rounded}
use Rattle.cell.proofs.Laws.Text.{all_digits, same-said}
use Rattle.sheet.specs.Ink.{Ink, figure_fits, ink_fits}
use Rattle.sheet.specs.Sheet.{Written, Cell, ◌holds◌, Sheet, columns_of, cell_fits, line_of, ascend, answer_of, afterwards, Writes}
use Rattle.sheet.specs.When.{Odd, RealMisfit, FactorMisfit, FigureMisfit, InkMisfit, Misfit, First, AllFit, Lowest, When}
use Rattle.sheet.specs.declared.Figure.{Figure}
use Rattle.sheet.specs.declared.Figure.TheVariants as figures
use Rattle.sheet.specs.declared.Unwritten.TheVariants.{NoFit, NoRoom}
use Rattle.sheet.proofs.Laws.Line.{ascend-parts, line-width}

-- ---- tests
-- a test tells by failing that something doesn't fit
abbrev Tells : Bool → Type 0 → Type 0
Tells fits M = (fits ≡ false → M) × (fits ≡ true → M → ⊥)

-- from an equation of two variants, or of true and false, `cc` makes this one
never : {A : Type 0} → ◌≡◌ {A = ℕ} 0 1 → A
never z = absurd (omega arith)

tells_as : {A B : Type 0} (a : Bool) → (A → B) → (B → A) → Tells a A → Tells a B
tells_as a to back f = (λ e. to (f.0 e), λ e b. f.1 e (back b))

tells-either : {A B : Type 0} (a b : Bool) → Tells a A → Tells b B → Tells (a && b) (A ⊎ B)
tells-either true b f g = (λ e. inr (g.0 e), λ e. ⊎_elim (f.1 refl) (g.1 e))
tells-either false b f g = (λ e. inl (f.0 refl), λ e m. never (cc))

tells-some : Tells false (Unit {0})
tells-some = (λ e. tt, λ e m. never (cc))

tells-above : (a b : ℕ) → Tells (leb a b) (b < a)
tells-above a b = (leb-false a b, λ e m. not-le_of_lt m (leb-true a b e))

tells-other : (a b : ℕ) → Tells (eqb a b) (a ≡ b → ⊥)
tells-other a b = (eqb-false a b, λ e m. m (eqb-true a b e))

-- ---- texts
tells-long : (w : ℕ) (t : List ℕ) → Tells (fitting w t) (w < length t)
unfolding fitting
tells-long w t = tells-above (length t) w

tells_odd : (t : List ℕ) → Tells (printable t) (Odd t)
unfolding printable
tells_odd [] = (λ e. never (cc), λ e m. Memᴰ.not-nil m.1)
tells_odd (b ∷ t) =
    tells_as (leb 32 b && leb b 126 && printable t) (⊎_elim (λ m. (b, Memᴰ.head refl, m)) (λ m. (m.0, Memᴰ.tail m.1, m.2)))
    (λ m. ⊎_elim (λ e. inl (rw e at m.2)) (λ h. inr (m.0, h, m.2)) (Memᴰ.cases_cons m.1))
    (tells-either (leb 32 b && leb b 126) (printable t) (tells-either (leb 32 b) (leb b 126) (tells-above 32 b) (tells-above b 126)) (tells_odd t))

words-tells : (w : ℕ) (t : List ℕ) → Tells (words_fit w t) ((w < length t) ⊎ Odd t)
unfolding words_fit
words-tells w t = tells-either (fitting w t) (printable t) (tells-long w t) (tells_odd t)

lent-tells : (w : ℕ) (t : List ℕ) → Tells (lent_fits w t) ((length t ≡ w → ⊥) ⊎ Odd t)
unfolding lent_fits
lent-tells w t = tells-either (eqb (length t) w) (printable t) (tells-other (length t) w) (tells_odd t)

-- ---- numbers
real-tells : (w q : ℕ) (p : Option Rounded) → Tells (real_fits w q p) (RealMisfit w q p)
real-tells w q (Some r) = tells-long w (fixed q r.minus r.digits)
real-tells w q None = tells-some

factor-tells : (w : ℕ) (p : Option Rounded) → Tells (factor_fits w p) (FactorMisfit w p)
factor-tells w (Some r) = tells-long w (signed_decimal (with_sign r.minus r.digits))
factor-tells w None = tells-some

-- a flag and a row have a byte at most, so the width tells nothing of them
given-tells : (w : ℕ) (b : Bool) → 0 < w → Tells (fitting w (flag_text b)) ⊥
unfolding fitting
given-tells w true some = (λ e. omega (arith, leb-false 1 w e), λ e m. m)
given-tells w false some = (λ e. omega (arith, leb-false 0 w e), λ e m. m)

row-tells : (w n : ℕ) → 0 < w → Tells (row_fits_of w n) (2 < n)
unfolding row_fits_of fitting
row-tells w n some =
    tells_as (ltb n 3 && leb 1 w) (⊎_elim (λ m. m) (λ m. absurd (omega arith))) inl
    (tells-either (ltb n 3) (leb 1 w) (λ e. ltb-false n 3 e, λ e m. omega (arith, ltb-true n 3 e)) (tells-above 1 w))

figure-tells : (w : ℕ) (f : Figure) → 0 < w → Tells (figure_fits w f) (FigureMisfit w f)
figure-tells w (figures.Unsigned n) some = tells-long w (decimal n)
figure-tells w (figures.Signed z) some = tells-long w (signed_decimal z)
figure-tells w (figures.Real q x) some = real-tells w q (places_of q x)
figure-tells w (figures.Factor x) some = factor-tells w (places_of 4 x)
figure-tells w (figures.Charge z) some = tells-long w (charge_text z)
figure-tells w (figures.Given b) some = given-tells w b some
figure-tells w (figures.Row n) some = row-tells w n some

ink_tells : (w : ℕ) (i : Ink) → 0 < w → Tells (ink_fits w i) (InkMisfit w i)
ink_tells w (Ink.figure f) some = figure-tells w f some
ink_tells w (Ink.words isLeft t) some = words-tells w t
ink_tells w (Ink.lent t) some = lent-tells w t
ink_tells w Ink.other some = tells-some

pub misfit_tells : (c : Cell) → (columns_of c).start < (columns_of c).end → (cell_fits c ≡ false → Misfit c) × (cell_fits c ≡ true → Misfit c → ⊥)
misfit_tells (at holds i) wide = ink_tells (at.end - at.start) i (omega arith)

-- ---- the answer
-- what an answer tells of the cells and of the room
record Told (cells : List Cell) (room : ℕ) (r : Written) : Type 0 where
  first : (at : Columns) → (r ≡ Err (NoFit at)) ↔ First cells at
  short : (r ≡ Err NoRoom) ↔ (AllFit cells × (room < 80))
  long : (r ≡ Ok tt) ↔ (AllFit cells × (80 ≤ room))

told_none : (room : ℕ) (b : Bool) → ltb room 80 ≡ b → Told [] room (cond b (Err NoRoom) (Ok tt))
told_none room true f =
    let few = ltb-true room 80 f in record {
      first = λ at. (λ e. never (cc), absurd);
      short = (λ e. (tt, few), λ m. refl);
      long = (λ e. never (cc), λ m. absurd (omega arith));
    }
told_none room false f =
    let many = ltb-false room 80 f in record {
      first = λ at. (λ e. never (cc), absurd);
      short = (λ e. never (cc), λ m. absurd (omega arith));
      long = (λ e. (tt, many), λ m. refl);
    }

-- a cell that fits leaves the answer to the rest, and one that doesn't is the answer
module _ (c : Cell) (rest : List Cell) (room : ℕ) (r : Written) where
  told_fit : (Misfit c → ⊥) → Told rest room r → Told (c ∷ rest) room r
  told_fit fits h = record {
    first = λ at. (λ e. inr (fits, (h.first at).0 e), ⊎_elim (λ m. absurd (fits m.0)) (λ m. (h.first at).1 m.1));
    short = (λ e. let m = h.short.0 e in ((fits, m.0), m.1), λ m. h.short.1 (m.0.1, m.1));
    long = (λ e. let m = h.long.0 e in ((fits, m.0), m.1), λ m. h.long.1 (m.0.1, m.1));
  }

  told_misfit : Misfit c → Told (c ∷ rest) room (Err (NoFit (columns_of c)))
  told_misfit is = record {
    first = λ at. (λ e. inl (is, cc), ⊎_elim (λ m. ap (λ (k : Columns). Err (NoFit k)) (sym m.1)) (λ m. absurd (m.0 is)));
    short = (λ e. never (cc), λ m. absurd (m.0.0 is));
    long = (λ e. never (cc), λ m. absurd (m.0.0 is));
  }

  told_by_lem : (b : Bool) → Tells b (Misfit c) → Told rest room r → Told (c ∷ rest) room (cond b r (Err (NoFit (columns_of c))))
  told_by_lem true t h = told_fit (t.1 refl) h
  told_by_lem false t h = told_misfit (t.0 refl)

told : (column : ℕ) (cells : List Cell) (room : ℕ) → ascend column cells ≡ true → Told cells room (answer_of cells room)
unfolding answer_of
told column [] room h = told_none room (ltb room 80) refl
told column (c ∷ rest) room h =
    let a = ascend-parts column c rest h in
    told_by_lem c rest room (answer_of rest room) (cell_fits c) (misfit_tells c a.wide) (told (columns_of c).end rest room a.more)

kept : (old line : List ℕ) (r : Written) → (r ≡ Ok tt → ⊥) → afterwards old line r ≡ old
kept old line (Ok u) other = absurd (other refl)
kept old line (Err why) other = refl

pub written_when : (s : Sheet) → ascend (length s.name) s.cells ≡ true → (old new : List ℕ) (r : Written) → Writes old s r new → When old s r new
written_when s h old new r w =
    let t : Told s.cells (length old) r = rw w.answers (told (length s.name) s.cells (length old) h) in
    record {
      refused = t.first;
      short = t.short;
      line = t.long;
      untouched = λ other. w.leaves ∙ kept old (line_of s) r other;
      lent = λ e. (rw e at w.leaves, line-width s h);
    }

-- ---- the first by column
-- a cell among ascending columns starts where they start or behind
starts-behind : (column : ℕ) (cells : List Cell) → ascend column cells ≡ true → (c : Cell) → Memᴰ c cells → column ≤ (columns_of c).start
starts-behind column [] h c m = absurd (Memᴰ.not-nil m)
starts-behind column (d ∷ rest) h c m =
    let a = ascend-parts column d rest h in
    ⊎_elim (λ e. rw e a.after) (λ m. let l = starts-behind (columns_of d).end rest a.more c m in omega arith) (Memᴰ.cases_cons m)

-- a list's first cell, and the rest behind it
module _ (d : Cell) (rest : List Cell) (at : Columns) (wide : (columns_of d).start < (columns_of d).end) (next : ascend (columns_of d).end rest ≡ true) where
  behind : (c : Cell) → Memᴰ c rest → (columns_of d).start < (columns_of c).start
  behind c m = let l = starts-behind (columns_of d).end rest next c m in omega arith

  lowest_here : Misfit d → at ≡ columns_of d → Lowest (d ∷ rest) at
  lowest_here is e = record {
    among = (d, Memᴰ.head refl, is, e);
    least = λ c m some. rw e (⊎_elim (λ f. rw f (le_refl (columns_of d).start)) (λ m. let l = behind c m in omega arith) (Memᴰ.cases_cons m));
  }

  lowest_later : (Misfit d → ⊥) → Lowest rest at → Lowest (d ∷ rest) at
  lowest_later fits l = record {
    among = let (c, m, is, e) = l.among in (c, Memᴰ.tail m, is, e);
    least = λ c m is. ⊎_elim (λ e. absurd (fits (rw e at is))) (λ m. l.least c m is) (Memᴰ.cases_cons m);
  }

  -- one behind would start above the first cell
  here_only : Misfit d → Lowest (d ∷ rest) at → at ≡ columns_of d
  here_only is l =
      let (c, m, some, e) = l.among in
      let low = l.least d (Memᴰ.head refl) is in
      let same = ap (λ (k : Columns). k.start) e in
      ⊎_elim (λ f. e ∙ ap columns_of f) (λ m. let b = behind c m in absurd (omega arith)) (Memᴰ.cases_cons m)

  later_only : (Misfit d → ⊥) → Lowest (d ∷ rest) at → Lowest rest at
  later_only fits l = record {
    among =
        let (c, m, is, e) = l.among in
        ⊎_elim (λ f. absurd (fits (rw f at is))) (λ m. (c, m, is, e)) (Memᴰ.cases_cons m);
    least = λ c m is. l.least c (Memᴰ.tail m) is;
  }

  first-low : (First rest at → Lowest rest at) → First (d ∷ rest) at → Lowest (d ∷ rest) at
  first-low more = ⊎_elim (λ m. lowest_here m.0 m.1) (λ m. lowest_later m.0 (more m.1))

  first_by : (b : Bool) → Tells b (Misfit d) → First rest at ↔ Lowest rest at → First (d ∷ rest) at ↔ Lowest (d ∷ rest) at
  first_by true t more = let fits = t.1 refl in (first-low more.0, λ l. inr (fits, more.1 (later_only fits l)))
  first_by false t more = let is = t.0 refl in (first-low more.0, λ l. inl (is, here_only is l))

first-from : (column : ℕ) (cells : List Cell) → ascend column cells ≡ true → (at : Columns) → First cells at ↔ Lowest cells at
first-from column [] h at = (absurd, λ l. Memᴰ.not-nil l.among.1)
first-from column (d ∷ rest) h at =
    let a = ascend-parts column d rest h in
    first_by d rest at a.wide a.more (cell_fits d) (misfit_tells d a.wide) (first-from (columns_of d).end rest a.more at)

pub first_lowest : (s : Sheet) → ascend (length s.name) s.cells ≡ true → (at : Columns) → First s.cells at ↔ Lowest s.cells at
first_lowest s h at = first-from (length s.name) s.cells h at

-- ---- in words of the number
-- w digits say a number below 10 ^ w, and a number below 10 ^ w has w digits at most
not_below : (a b : ℕ) → (a < b → ⊥) → b ≤ a
not_below a b f = omega (arith, lt_of_not-le {n = suc a} {m = b} (λ l. f (omega arith)))

module _ (n w : ℕ) (small : n < 2 ^ 64) where
  value-long : 10 ^ w ≤ n → w < length (decimal n)
  value-long h =
      lt_of_not-le (λ l.
      let v : decimal_said 0 (decimal n) < 10 ^ w = rw (same-said 0 (decimal n)) (value-below (decimal n) w (all_digits (decimal n) (between n small)) l) in
      omega (arith, decimal-says n small))

  pub decimal-long : 0 < w → (w < length (decimal n)) ↔ (10 ^ w ≤ n)
  decimal-long some = (λ h. not_below n (10 ^ w) (λ l. omega (arith, decimal-short n small w some l)), value-long)

charge-size : (n mark : ℕ) → n < 2 ^ 64 → (2 < length (decimal n ++ mark ∷ [])) ↔ (9 < n)
charge-size n mark small =
    let more = length-append (decimal n) (mark ∷ []) in
    let is = decimal-long n 1 small (omega arith) in
    (λ h. omega (arith, is.0 (omega arith)), λ h. omega (arith, is.1 (omega arith)))

pub charge-long : (z : ℤ) → nat_abs z < 2 ^ 64 → (2 < length (charge_text z)) ↔ (9 < nat_abs z)
unfolding charge_text
charge-long (pos zero) small = (λ h. absurd (omega arith), λ h. absurd (omega arith))
charge-long (pos (suc n)) small = charge-size (suc n) 43 small
charge-long (negsuc n) small = charge-size (suc n) 45 small
