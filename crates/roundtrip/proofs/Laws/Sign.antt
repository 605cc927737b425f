-- "The same .. signs (not of an ANISOU zero)": a real comes back with its sign, a zero too, and one of ANISOU's six unless it comes back as 0.0.
--     written-sign     of a real: -0.0004 in three places goes out as `-0.000` and comes back as negative zero
--     factor-sign      of one of ANISOU's six
--     written_signs    of all reals of a line
-- Assumes nothing.
use mathlib.Core.Path.{ap, ◌≡◌, refl, sym, ◌∙◌}
use Prim.Native.Nat.{ℕ, zero, suc, ◌-◌, ◌*◌, ◌^◌, ◌<◌}
use native.Mathlib.Omega.{arith}
use mathlib.Core.Logic.{◌⊎◌, inl, inr}
use mathlib.Core.Bool.{Bool, true, false, cond}
use mathlib.Core.List.{List, [], ◌∷◌}
use lib.Dec.{ltb}
use lib.IntN.{nat_abs}
use lib.Ieee.{Float, nan, inf, fin, up, down, div, of_int}
use lib.Ieee.Exact.{HasValue}
use lib.Ieee.Nearest.{closest}
use Rattle.std.specs.Prelude.{Option, Some, None}
use Rattle.number.specs.Whole.{with_sign}
use Rattle.real.specs.Double.{double_of}
use Rattle.real.specs.Real.{ten_thousandth}
use Rattle.real.specs.Sign.{below}
use Rattle.real.proofs.Laws.Quotient.{integer-near, double-near}
use Rattle.field.specs.Number.{zero_real}
use Rattle.cell.specs.Cell.{real_fits, factor_fits}
use Rattle.cell.specs.Places.{rounded, within, rounded_to, places_of}
use Rattle.cell.specs.declared.places.Rounded.{Rounded}
use Rattle.cell.proofs.Laws.Places.{placed, places-few}
use Rattle.sheet.specs.Ink.{Ink, ink_fits, figure_fits}
use Rattle.sheet.specs.Sheet.{Cell, ◌holds◌}
use Rattle.sheet.specs.declared.Figure.{Figure}
use Rattle.sheet.specs.declared.Figure.TheVariants as figures
use Rattle.roundtrip.specs.Returned.{Fit, double_back, factor_back, negative, Signs, SignInk, SignFigure}

-- ---- what is written has the double's sign
within-sign : (s t : Bool) (c n : ℕ) → within s c ≡ Some (rounded t n) → s ≡ t
unfolding within
within-sign s t c n e = go (ltb c (10 ^ 10)) e
  where
    go : (b : Bool) → cond b (Some (rounded s c)) None ≡ Some (rounded t n) → s ≡ t
    go true e = let same : rounded s c ≡ rounded t n = cc in ap (λ (r : Rounded). r.minus) same
    go false e = absurd (let z : ◌≡◌ {A = ℕ} 0 1 = cc in omega arith)

sign-out : (q : ℕ) (x : Float) (s : Bool) (n : ℕ) → rounded_to q x ≡ Some (rounded s n) → negative x ≡ s
unfolding rounded_to
sign-out q nan s n e = absurd (let z : ◌≡◌ {A = ℕ} 0 1 = cc in omega arith)
sign-out q (inf t) s n e = absurd (let z : ◌≡◌ {A = ℕ} 0 1 = cc in omega arith)
sign-out q (fin t m k) s n e = within-sign t s (closest (m * up k * 10 ^ q) (down k)) n e

value-sign : (x : Float) (s : Bool) (a c : ℕ) → HasValue x s a c → negative x ≡ s
value-sign (fin t m k) s a c v = v.0
value-sign nan s a c v = elim v [ ]
value-sign (inf _) s a c v = elim v [ ]

-- ---- and what is read has the sign that is written
pub written-sign : (q : ℕ) (x : Float) (s : Bool) (n : ℕ) → places_of q x ≡ Some (rounded s n)
    → (negative x ≡ s) × (negative (double_back q (places_of q x)) ≡ s)
written-sign q x s n e =
    let (long, rounds) = placed q x s n e in
    let near = double-near s n q (places-few q x s n rounds) long in
    (sign-out q x s n rounds, rw e (value-sign (double_of s n q) s near.parts (2 ^ 82) near.value))

-- an integer's sign, unless it is 0
whole-sign : (s : Bool) (n : ℕ) → nat_abs (with_sign s (suc n)) ≡ suc n
whole-sign true n = refl
whole-sign false n = refl

whole_below : (s : Bool) (n : ℕ) → below (with_sign s (suc n)) ≡ s
whole_below true n = refl
whole_below false n = refl

no_sign : (s : Bool) → ten_thousandth (with_sign s 0) ≡ zero_real
unfolding ten_thousandth div of_int
no_sign true = refl
no_sign false = refl

pub factor-sign : (x : Float) (s : Bool) (n : ℕ) → places_of 4 x ≡ Some (rounded s n)
    → (factor_back (places_of 4 x) ≡ zero_real) ⊎ ((negative x ≡ s) × (negative (factor_back (places_of 4 x)) ≡ s))
factor-sign x s n e = let (long, rounds) = placed 4 x s n e in rw e (go n (places-few 4 x s n rounds) (sign-out 4 x s n rounds))
  where
    go : (n : ℕ) → n < 10 ^ 10 → negative x ≡ s
        → (ten_thousandth (with_sign s n) ≡ zero_real) ⊎ ((negative x ≡ s) × (negative (ten_thousandth (with_sign s n)) ≡ s))
    go zero few out = inl (no_sign s)
    go (suc n) few out =
        let near = integer-near (with_sign s (suc n)) (rw (whole-sign s n) few) in
        inr (out, value-sign (ten_thousandth (with_sign s (suc n))) (below (with_sign s (suc n))) near.parts (2 ^ 82) near.value ∙ whole_below s n)

-- ---- all of a line
figure_signs : (w : ℕ) (f : Figure) → figure_fits w f ≡ true → SignFigure f
figure_signs w (figures.Unsigned n) fit = tt
figure_signs w (figures.Signed z) fit = tt
figure_signs w (figures.Real q x) fit = go (places_of q x) refl fit
  where
    go : (p : Option Rounded) → places_of q x ≡ p → real_fits w q p ≡ true → negative (double_back q (places_of q x)) ≡ negative x
    go (Some r) e f = let both = written-sign q x r.minus r.digits e in both.1 ∙ sym both.0
    go None e f = cc
figure_signs w (figures.Factor x) fit = go (places_of 4 x) refl fit
  where
    same : (s : Bool) → (factor_back (places_of 4 x) ≡ zero_real) ⊎ ((negative x ≡ s) × (negative (factor_back (places_of 4 x)) ≡ s))
        → (factor_back (places_of 4 x) ≡ zero_real) ⊎ (negative (factor_back (places_of 4 x)) ≡ negative x)
    same s (inl z) = inl z
    same s (inr both) = inr (both.1 ∙ sym both.0)

    go : (p : Option Rounded) → places_of 4 x ≡ p → factor_fits w p ≡ true
        → (factor_back (places_of 4 x) ≡ zero_real) ⊎ (negative (factor_back (places_of 4 x)) ≡ negative x)
    go (Some r) e f = same r.minus (factor-sign x r.minus r.digits e)
    go None e f = absurd (let z : ◌≡◌ {A = ℕ} 0 1 = cc in omega arith)
figure_signs w (figures.Charge z) fit = tt
figure_signs w (figures.Given b) fit = tt
figure_signs w (figures.Row n) fit = tt

ink_signs : (w : ℕ) (ink : Ink) → ink_fits w ink ≡ true → SignInk ink
ink_signs w (Ink.figure f) fit = figure_signs w f fit
ink_signs w (Ink.words isLeft t) fit = tt
ink_signs w (Ink.lent t) fit = tt
ink_signs w Ink.other fit = tt

pub written_signs : (cells : List Cell) → Fit cells → Signs cells
written_signs [] fit = tt
written_signs ((at holds ink) ∷ rest) fit = (ink_signs (at.end - at.start) ink fit.0, written_signs rest fit.1)
