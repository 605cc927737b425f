-- What is read of a cell that fits goes out as the same bytes: a real as the nearest double to its decimal, of which that decimal is the nearest.
--     cells_again      a line's cells, with what is read of them
--     cells-again     they fit, and draw the same bytes
-- Assumes nothing.
use mathlib.Core.Path.{◌≡◌, refl, ◌∙◌}
use Prim.Native.Nat.{ℕ, suc, ◌-◌, ◌^◌, ◌<◌}
use native.Mathlib.Omega.{arith}
use mathlib.Core.Bool.{Bool, true, false}
use mathlib.Core.List.{List, [], ◌∷◌}
use lib.Dec.{lit≤}
use lib.IntN.{ℤ, pos, negsuc, nat_abs}
use lib.Ieee.{Float}
use Rattle.std.specs.Prelude.{Option, Some, None}
use Rattle.number.specs.Whole.{with_sign}
use Rattle.real.specs.Double.{double_of}
use Rattle.real.specs.Real.{ten_thousandth}
use Rattle.real.specs.Sign.{below}
use Rattle.cell.specs.Cell.{real_fits, factor_fits, factor_bytes}
use Rattle.cell.specs.Places.{rounded, places_of}
use Rattle.cell.specs.declared.places.Rounded.{Rounded}
use Rattle.cell.proofs.Laws.Back.{factor-back}
use Rattle.cell.proofs.Laws.Places.{placed, places_are, places-few, places-again}
use Rattle.sheet.specs.Ink.{Ink, figure_fits, figure_bytes, ink_fits, ink_bytes}
use Rattle.sheet.specs.Sheet.{Cell, ◌holds◌, cells_from}
use Rattle.sheet.specs.declared.Figure.{Figure}
use Rattle.sheet.specs.declared.Figure.TheVariants as figures
use Rattle.roundtrip.specs.Returned.{Fit, double_back, factor_back}

-- ---- what was read, in its cell again
abbrev pub figure_again : Figure → Figure
figure_again (figures.Unsigned n) = figures.Unsigned n
figure_again (figures.Signed z) = figures.Signed z
figure_again (figures.Real q x) = figures.Real q (double_back q (places_of q x))
figure_again (figures.Factor x) = figures.Factor (factor_back (places_of 4 x))
figure_again (figures.Charge z) = figures.Charge z
figure_again (figures.Given b) = figures.Given b
figure_again (figures.Row n) = figures.Row n

abbrev pub ink_again : Ink → Ink
ink_again (Ink.figure f) = Ink.figure (figure_again f)
ink_again (Ink.words isLeft t) = Ink.words isLeft t
ink_again (Ink.lent t) = Ink.lent t
ink_again Ink.other = Ink.other

abbrev pub cells_again : List Cell → List Cell
cells_again [] = []
cells_again ((at holds ink) ∷ rest) = at holds ink_again ink ∷ cells_again rest

-- ---- gives the same bytes
real-again : (w q : ℕ) (x : Float) → real_fits w q (places_of q x) ≡ true → places_of q (double_back q (places_of q x)) ≡ places_of q x
real-again w q x fit = go (places_of q x) refl fit
  where
    go : (p : Option Rounded) → places_of q x ≡ p → real_fits w q p ≡ true → places_of q (double_back q p) ≡ p
    go (Some r) e f =
        let (long, rounds) = placed q x r.minus r.digits e in
        places_are q (double_of r.minus r.digits q) long ∙ places-again q x r.minus r.digits long rounds
    go None e f = cc

-- of one of ANISOU's six the sign of a zero may go, which isn't written
whole-size : (s : Bool) (n : ℕ) → nat_abs (with_sign s n) ≡ n
whole-size true ℕ.zero = refl
whole-size true (suc n) = refl
whole-size false n = refl

sign-is : (z : ℤ) → with_sign (below z) (nat_abs z) ≡ z
sign-is (pos n) = refl
sign-is (negsuc n) = refl

abbrev Same : ℕ → Option Rounded → Option Rounded → Type 0
Same w p r = (factor_fits w p ≡ factor_fits w r) × (factor_bytes w p ≡ factor_bytes w r)

factor-again : (w : ℕ) (x : Float) → factor_fits w (places_of 4 x) ≡ true → Same w (places_of 4 (factor_back (places_of 4 x))) (places_of 4 x)
factor-again w x fit = go (places_of 4 x) refl fit
  where
    go : (p : Option Rounded) → places_of 4 x ≡ p → factor_fits w p ≡ true → Same w (places_of 4 (factor_back p)) p
    go (Some r) e f =
        let z = with_sign r.minus r.digits in
        let (long, rounds) = placed 4 x r.minus r.digits e in
        let few : nat_abs z < 10 ^ 10 = rw (whole-size r.minus r.digits) (places-few 4 x r.minus r.digits rounds) in
        let again : places_of 4 (ten_thousandth z) ≡ Some (rounded (below z) (nat_abs z)) = places_are 4 (ten_thousandth z) (lit≤ tt) ∙ factor-back z few in
        (rw (again, sign-is z) refl, rw (again, sign-is z) refl)
    go None e f = absurd (let z : ◌≡◌ {A = ℕ} 0 1 = cc in omega arith)

figure-again : (w : ℕ) (f : Figure) → figure_fits w f ≡ true
    → (figure_fits w (figure_again f) ≡ true) × (figure_bytes w (figure_again f) ≡ figure_bytes w f)
figure-again w (figures.Unsigned n) fit = (fit, refl)
figure-again w (figures.Signed z) fit = (fit, refl)
figure-again w (figures.Real q x) fit = rw (real-again w q x fit) (fit, refl)
figure-again w (figures.Factor x) fit = let same = factor-again w x fit in (same.0 ∙ fit, same.1)
figure-again w (figures.Charge z) fit = (fit, refl)
figure-again w (figures.Given b) fit = (fit, refl)
figure-again w (figures.Row n) fit = (fit, refl)

ink_again_lem : (w : ℕ) (ink : Ink) → ink_fits w ink ≡ true → (ink_fits w (ink_again ink) ≡ true) × (ink_bytes w (ink_again ink) ≡ ink_bytes w ink)
ink_again_lem w (Ink.figure f) fit = figure-again w f fit
ink_again_lem w (Ink.words isLeft t) fit = (fit, refl)
ink_again_lem w (Ink.lent t) fit = (fit, refl)
ink_again_lem w Ink.other fit = (fit, refl)

pub cells-again : (column : ℕ) (cells : List Cell) → Fit cells → Fit (cells_again cells) × (cells_from column (cells_again cells) ≡ cells_from column cells)
unfolding cells_from
cells-again column [] fit = (tt, refl)
cells-again column ((at holds ink) ∷ rest) fit =
    let (fits, same) = ink_again_lem (at.end - at.start) ink fit.0 in
    let (more, last) = cells-again at.end rest fit.1 in
    ((fits, more), rw (same, last) refl)
