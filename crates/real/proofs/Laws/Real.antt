-- What the doubles of a text are: near the written number, so finite, and they tell it.
--     real-is, real_not                    a plain decimal has its double, and what is no plain decimal has none
--     decimal-near, real-near              the double is near the written number, and its places are the number's
--     real_finite                          it is finite and no NaN
--     reals_tell                           two texts with the same double say the same number, with the same sign
--     decimal-within                       what a text says is within the limits
--     eight_real, six-real                 what is read of a text as a word, if anything is, is what the text says
--     ten_thousandths_near                 an integer's double over 10000.0, in up to seven columns, is near its number
--     ten_thousandths_tell                 two integers of up to ten digits with the same double are the same
-- Assumes nothing.
use Prim.Native.Nat.{ℕ, ◌+◌, ◌*◌, ◌/◌, ◌^◌, ◌≤◌, ◌<◌}
use mathlib.Core.Path.{◌≡◌, refl, sym, ap}
use mathlib.Core.Bool.{Bool, true, false, cond, not, ◌||◌}
use mathlib.Core.List.{List}
use native.Mathlib.Nat.{div-one}
use native.Mathlib.Omega.{arith}
use borrow.Author.Tests.{le-leb}
use lib.ListN.{length}
use lib.Dec.{T, eqb}
use lib.IntN.{ℤ, pos, negsuc, nat_abs}
use lib.Ieee.{Float, is_nan}
use lib.Ieee.Scale.{finite}
use Rattle.std.specs.Prelude.{Option, Some, None, option_map}
use Rattle.number.specs.Whole.{signed_of}
use Rattle.number.specs.Decimal.{plain, decimal_of}
use Rattle.number.specs.Word.{none, code_of, minus_in, front_in, behind_in, eight_of, six_of}
use Rattle.real.specs.Double.{double_of}
use Rattle.real.specs.Near.{Near}
use Rattle.real.specs.Real.{real, real_from, real_of, ten_thousandth, ten_thousandths_of, Few, SaysReal, coded_of}
use Rattle.real.specs.Sign.{below}
use Rattle.number.specs.declared.decimal.Decimal.{Decimal}
use Rattle.real.specs.declared.Real.{Real}
use Rattle.real.proofs.Laws.Quotient.{integer-near, double-near}
use Rattle.real.proofs.Laws.Tells.{near-tells, near_finite, near-number}
use Rattle.number.proofs.Laws.Width.{signed-within, decimal_limits}
use Rattle.number.proofs.Laws.Fixed.{eight_said, six-said}

-- ---- plain decimals
pub real-is : (t : List ℕ) {s : Bool} {m p : ℕ} → decimal_of t ≡ Some (plain s m p) → real_of t ≡ Some (real (double_of s m p) p)
unfolding real_of
real-is t e = rw e refl

pub real_not : (t : List ℕ) → (decimal_of t ≡ None → real_of t ≡ None) × (real_of t ≡ None → decimal_of t ≡ None)
unfolding real_of
real_not t = (λ e. rw e refl, go (decimal_of t))
  where
    go : (d : Option Decimal) → option_map real_from d ≡ None → d ≡ None
    go None e = refl
    go (Some d) e = cc

pub decimal-near : (t : List ℕ) {s : Bool} {m p : ℕ} → decimal_of t ≡ Some (plain s m p) → Near s m p (double_of s m p)
decimal-near t {s} {m} {p} e = let l = decimal_limits t e in double-near s m p l.0 l.1

pub real-near : (t : List ℕ) {x : Float} {p : ℕ} → real_of t ≡ Some (real x p) → (s : Bool) × (m : ℕ) × (decimal_of t ≡ Some (plain s m p)) × Near s m p x
unfolding real_of
real-near t {x} {p} e = go (decimal_of t) refl e
  where
    go : (d : Option Decimal) → decimal_of t ≡ d → option_map real_from d ≡ Some (real x p) → (s : Bool) × (m : ℕ) × (decimal_of t ≡ Some (plain s m p)) × Near s m p x
    go None d e = absurd (let z : ◌≡◌ {A = ℕ} 0 1 = cc in omega arith)
    go (Some n) d e =
        let both : real_from n ≡ real x p = cc in
        let same = ap (λ (r : Real). r.value) both in
        let places = ap (λ (r : Real). r.places) both in
        (n.minus, n.digits, rw places at d, rw (same, places) at (decimal-near t d))

pub real_finite : (t : List ℕ) {x : Float} {p : ℕ} → real_of t ≡ Some (real x p) → T (finite x) × T (not (is_nan x))
real_finite t e = let (s, m, d, near) = real-near t e in (near_finite near, near-number near)

pub reals_tell : (t u : List ℕ) {s r : Bool} {m n p q : ℕ} → decimal_of t ≡ Some (plain s m p) → decimal_of u ≡ Some (plain r n q)
    → double_of s m p ≡ double_of r n q → (s ≡ r) × (m * 10 ^ q ≡ n * 10 ^ p)
reals_tell t u {s} {r} {m} {n} {p} {q} d e same =
    let other = rw (sym same) at (decimal-near u e) in
    near-tells s r m n p q (double_of s m p) (decimal-near t d) other (decimal_limits t d).0 (decimal_limits u e).0

-- ---- what was read
pub decimal-within : (t : List ℕ) {d : Decimal} → decimal_of t ≡ Some d → Few d
decimal-within t e = decimal_limits t e

pub eight_real : (t : List ℕ) → SaysReal t (coded_of 3 (code_of (eight_of t)))
unfolding coded_of
eight_real t = go (eqb (code_of (eight_of t)) none) refl
  where
    go : (b : Bool) → let c = code_of (eight_of t) in eqb c none ≡ b
        → SaysReal t (cond (b || false) None (Some (real_from (plain (minus_in c) (front_in c * 10 ^ 3 + behind_in c / 10 ^ 0) 3))))
    go true e = tt
    go false e = rw (div-one (behind_in (code_of (eight_of t)))) (real-is t (eight_said t e))

pub six-real : (t : List ℕ) → SaysReal t (coded_of 2 (code_of (six_of t)))
unfolding coded_of
six-real t = go (eqb (code_of (six_of t)) none) refl
  where
    go : (b : Bool) → let c = code_of (six_of t) in eqb c none ≡ b
        → SaysReal t (cond (b || false) None (Some (real_from (plain (minus_in c) (front_in c * 10 ^ 2 + behind_in c / 10 ^ 1) 2))))
    go true e = tt
    go false e = real-is t (six-said t e)

-- ---- ten-thousandths
pub ten_thousandths_near : (t : List ℕ) {z : ℤ} → signed_of t ≡ Some z → length t ≤ 7
    → (ten_thousandths_of t ≡ Some (ten_thousandth z)) × Near (below z) (nat_abs z) 4 (ten_thousandth z)
unfolding ten_thousandths_of
ten_thousandths_near t {z} e w = (rw (le-leb (length t) 7 w, e) refl, integer-near z (signed-within t e 10 (omega arith)))

signs_tell : (y z : ℤ) → below y ≡ below z → nat_abs y ≡ nat_abs z → y ≡ z
signs_tell (pos m) (pos n) s e = ap pos e
signs_tell (pos m) (negsuc n) s e = cc
signs_tell (negsuc m) (pos n) s e = cc
signs_tell (negsuc m) (negsuc n) s e = let k : m ≡ n = omega arith in ap negsuc k

pub ten_thousandths_tell : (y z : ℤ) → nat_abs y < 10 ^ 10 → nat_abs z < 10 ^ 10 → ten_thousandth y ≡ ten_thousandth z → y ≡ z
ten_thousandths_tell y z m n same =
    let x = ten_thousandth y in
    let other = rw (sym same) at (integer-near z n) in
    let (s, e) = near-tells (below y) (below z) (nat_abs y) (nat_abs z) 4 4 x (integer-near y m) other m n in
    signs_tell y z s (omega arith)
