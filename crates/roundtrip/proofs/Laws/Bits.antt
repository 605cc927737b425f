-- "A real that was read from a field with no more places than the writer's comes back with the same bits."
--     real-held, factor-held     a real, and one of ANISOU's six
--     written_bits               all reals of a line
-- Assumes nothing.
use mathlib.Core.Path.{◌≡◌, refl, sym, ap, ◌∙◌}
use Prim.Native.Nat.{ℕ, suc, ◌+◌, ◌-◌, ◌*◌, ◌^◌, ◌≤◌, ◌<◌}
use native.Mathlib.Nat.{le_trans, add-sub_of_le, mul_assoc, mul_right_comm, mul-le-mul_right, suc-mul, lt_of_not-le, le_of_suc-le-suc}
use native.Mathlib.Omega.{arith}
use borrow.Author.Tests.{ltb-true, ltb-false, le-ltb}
use mathlib.Core.Logic.{◌⊎◌}
use mathlib.Core.Bool.{Bool, true, false}
use mathlib.Core.List.{List, [], ◌∷◌}
use lib.ListN.{length}
use lib.Dec.{ltb, lit≤}
use lib.IntN.{ℤ, pos, negsuc, nat_abs}
use lib.Pow.{pow-add, pow_pos}
use lib.Ieee.{Float}
use lib.Ieee.Nearest.{closest}
use Rattle.std.specs.Prelude.{Option, Some, None}
use Rattle.number.specs.Whole.{with_sign}
use Rattle.real.specs.Double.{double_of}
use Rattle.real.specs.Near.{Near, apart}
use Rattle.real.specs.Real.{ten_thousandth}
use Rattle.real.specs.Sign.{below}
use Rattle.real.proofs.Laws.Apart.{apart_times}
use Rattle.real.proofs.Laws.Halves.{closest_half}
use Rattle.real.proofs.Laws.Quotient.{double-near}
use Rattle.kind.specs.Name.{kept_by_atoms}
use Rattle.kind.specs.declared.Kind.{Kind}
use Rattle.lexitem.specs.Describe.{item_of, fields_of}
use Rattle.lexer.specs.Refusals.{Input, given}
use Rattle.cell.specs.Cell.{real_fits}
use Rattle.cell.specs.Places.{rounded, within, rounded_to, places_of}
use Rattle.cell.specs.declared.places.Rounded.{Rounded}
use Rattle.cell.proofs.Laws.Back.{factor-back}
use Rattle.cell.proofs.Laws.Places.{placed, places_are, places-value, written_back, written_same}
use Rattle.sheet.specs.Ink.{Ink, ink_fits, figure_fits}
use Rattle.sheet.specs.Sheet.{Cell, ◌holds◌, Sheet, line_of}
use Rattle.sheet.specs.declared.Figure.{Figure}
use Rattle.sheet.specs.declared.Figure.TheVariants as figures
use Rattle.roundtrip.specs.Returned.{Writable, Fit, Few, FewInk, FewFigure, From, FromInteger, Shown, rows_shown, double_back, factor_back, figure_by, ink_by, cells_shown, cells_held}
use Rattle.roundtrip.proofs.Laws.Read.{written_read}

-- ---- a double near ten digits and more doesn't fit
-- |v - n t| 2 ^ 53 ≤ n t and |c t - v| 2 ≤ t: with n at 10 ^ 10, c lies less than one below it
under : (a v x t : ℕ) → a + t ≤ x → apart a v * 2 ≤ t → 2 * v + t ≤ 2 * x
under a v x t g half = omega arith

over : (v b : ℕ) → apart v b * 2 ^ 53 ≤ b → (b - v) * 40000000000 ≤ b
over v b near = omega arith

between : (v b t e : ℕ) → 0 < t → 10 ^ 10 * t ≤ b → 2 * v + t ≤ 2 * (10 ^ 10 * t) → b ≤ v + e → e * 40000000000 ≤ b → ⊥
between v b t e T big h g k = omega arith

large : (v n t c : ℕ) → 0 < t → 10 ^ 10 ≤ n → apart v (n * t) * 2 ^ 53 ≤ n * t → apart (c * t) v * 2 ≤ t → 10 ^ 10 ≤ c
large v n t c T big near half =
    le_of_suc-le-suc
    (lt_of_not-le
    (λ (g : suc c ≤ 10 ^ 10).
    let less : c * t + t ≤ 10 ^ 10 * t = rw (suc-mul c t) at (mul-le-mul_right t g) in
    between v (n * t) t (n * t - v) T (mul-le-mul_right t big) (under (c * t) v (10 ^ 10 * t) t less half) (rest v (n * t)) (over v (n * t) near)))
  where
    rest : (v b : ℕ) → b ≤ v + (b - v)
    rest v b = omega arith

split_power : (p q : ℕ) → p ≤ q → 10 ^ p * 10 ^ (q - p) ≡ 10 ^ q
split_power p q h = rw (← pow-add 10 p (q - p), add-sub_of_le h) refl

no_room : (s t : Bool) (c n : ℕ) → 10 ^ 10 ≤ c → within s c ≡ Some (rounded t n) → ⊥
unfolding within
no_room s t c n h e = let none : None ≡ Some (rounded t n) = rw (le-ltb c (10 ^ 10) h) at e in let z : ◌≡◌ {A = ℕ} 0 1 = cc in omega arith

near-small : (s t : Bool) (m p q n : ℕ) (x : Float) → Near s m p x → p ≤ q → rounded_to q x ≡ Some (rounded t n) → 10 ^ 10 ≤ m * 10 ^ (q - p) → ⊥
near-small s t m p q n x near h e big =
    let k = 10 ^ (q - p) in
    let d = 2 ^ 82 in
    let z = near.parts in
    let scaled : apart (z * 10 ^ q) (m * k * d) * 2 ^ 53 ≤ m * k * d =
    rw (mul_assoc z (10 ^ p) k, split_power p q h, mul_right_comm m d k) at (apart_times k (z * 10 ^ p) (m * d) (2 ^ 53) (m * d) near.close) in
    let c = closest (z * 10 ^ q) d in
    let more = large (z * 10 ^ q) (m * k) d c (pow_pos 82) big scaled (closest_half (z * 10 ^ q) d (pow_pos 82)) in
    no_room s t c n more (sym (places-value q x s z d (pow_pos 82) near.value) ∙ e)

-- ---- a real
module _ (q : ℕ) (x : Float) (from : From q x) where
  real-is : (s : Bool) (n : ℕ) → places_of q x ≡ Some (rounded s n) → double_of s n q ≡ x
  real-is s n e =
      let (long, rounds) = placed q x s n e in go long (rw from.is at rounds)
    where
      go : q ≤ 9 → rounded_to q (double_of from.minus from.digits from.places) ≡ Some (rounded s n) → double_of s n q ≡ x
      go long rounds = by_size (ltb (from.digits * 10 ^ (q - from.places)) (10 ^ 10)) refl
        where
          by_size : (b : Bool) → ltb (from.digits * 10 ^ (q - from.places)) (10 ^ 10) ≡ b → double_of s n q ≡ x
          by_size true l =
              let fit = ltb-true (from.digits * 10 ^ (q - from.places)) (10 ^ 10) l in
              let back = written_back from.minus from.digits from.places q from.few from.less long fit in
              let same : rounded s n ≡ rounded from.minus (from.digits * 10 ^ (q - from.places)) = let both = sym rounds ∙ back in cc in
              let sign : s ≡ from.minus = ap (λ (r : Rounded). r.minus) same in
              let number : n ≡ from.digits * 10 ^ (q - from.places) = ap (λ (r : Rounded). r.digits) same in
              rw (sign, number) (written_same from.minus from.digits from.places q from.few from.less long fit ∙ sym from.is)
          by_size false l =
              absurd (near-small from.minus s from.digits from.places q n (double_of from.minus from.digits from.places)
              (double-near from.minus from.digits from.places from.few (le_trans from.less long)) from.less rounds
              (ltb-false (from.digits * 10 ^ (q - from.places)) (10 ^ 10) l))

  pub real-held : (w : ℕ) → real_fits w q (places_of q x) ≡ true → double_back q (places_of q x) ≡ x
  real-held w fit = go (places_of q x) refl fit
    where
      go : (p : Option Rounded) → places_of q x ≡ p → real_fits w q p ≡ true → double_back q p ≡ x
      go (Some r) e f = real-is r.minus r.digits e
      go None e f = cc

-- ---- one of ANISOU's six
sign-is : (z : ℤ) → with_sign (below z) (nat_abs z) ≡ z
sign-is (pos n) = refl
sign-is (negsuc n) = refl

pub factor-held : (x : Float) → FromInteger x → factor_back (places_of 4 x) ≡ x
factor-held x from =
    let z = from.whole in
    rw from.is (rw (places_are 4 (ten_thousandth z) (lit≤ tt), factor-back z from.few) (ap ten_thousandth (sign-is z)))

-- ---- all of a line
figure-held : (w : ℕ) (f : Figure) → figure_fits w f ≡ true → FewFigure f
    → figure_by (λ q x. double_back q (places_of q x)) (λ x. factor_back (places_of 4 x)) f ≡ figure_by (λ q x. x) (λ x. x) f
figure-held w (figures.Unsigned n) fit few = refl
figure-held w (figures.Signed z) fit few = refl
figure-held w (figures.Real q x) fit few = ap (λ (y : Float). Shown.double y ∷ []) (real-held q x few w fit)
figure-held w (figures.Factor x) fit few = ap (λ (y : Float). Shown.double y ∷ []) (factor-held x few)
figure-held w (figures.Charge z) fit few = refl
figure-held w (figures.Given b) fit few = refl
figure-held w (figures.Row n) fit few = refl

ink_held : (w : ℕ) (ink : Ink) → ink_fits w ink ≡ true → FewInk ink
    → ink_by (λ q x. double_back q (places_of q x)) (λ x. factor_back (places_of 4 x)) ink ≡ ink_by (λ q x. x) (λ x. x) ink
ink_held w (Ink.figure f) fit few = figure-held w f fit few
ink_held w (Ink.words isLeft t) fit few = refl
ink_held w (Ink.lent t) fit few = refl
ink_held w Ink.other fit few = refl

cells-held : (cells : List Cell) → Fit cells → Few cells → cells_shown cells ≡ cells_held cells
cells-held [] fit few = refl
cells-held ((at holds ink) ∷ rest) fit few =
    let first = ink_held (at.end - at.start) ink fit.0 few.0 in
    let more = cells-held rest fit.1 few.1 in
    rw (first, more) refl

pub written_bits : {k : Kind} {asked : List ℕ} {s : Sheet} → Writable k asked s → Fit s.cells → (i : Input) → i.line ≡ line_of s
    → length i.remarks ≡ 1000 → (i.options.atoms ≡ false) ⊎ (kept_by_atoms k ≡ true) → Few s.cells
    → rows_shown (line_of s) (fields_of (item_of k (given i))) ≡ cells_held s.cells
written_bits {s = s} w fit i e remarks kept few = (written_read w fit i e remarks kept).1 ∙ cells-held s.cells fit few
