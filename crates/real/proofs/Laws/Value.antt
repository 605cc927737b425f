-- What it tells that a double has a value: the same value as another fraction, its sign and size, the value of the negated double,
-- that it is finite, and what a quotient rounds. And an integer's double has the integer's value.
-- Assumes nothing.
use mathlib.Core.Path.{◌≡◌, refl, sym, ap, ◌∙◌}
use Prim.Native.Nat.{ℕ, suc, ◌*◌, ◌^◌, ◌≤◌, ◌<◌}
use native.Mathlib.Nat.{mul_assoc, mul_comm, mul_left_comm, mul_right_comm, mul-one, mul-pos, eq_of_mul-eq-mul_right}
use native.Mathlib.Omega.{arith}
use borrow.Author.Tests.{ne_eqb}
use mathlib.Core.Bool.{Bool, true, false, not}
use lib.IntN.{ℤ, pos, negsuc, nat_abs}
use lib.Dec.{T, le→leb, lt→ltb}
use lib.Ieee.{Float, fin, Format, binary64, prec, up, down, unlike, neg, div, round, of_int, in_float, is_nan}
use lib.Ieee.Exact.{HasValue}
use lib.Ieee.Fits.{down_pos}
use lib.Ieee.Back.{round_whole}
use lib.Ieee.Positive.{first_pos}
use lib.Ieee.Scale.{finite, round_same}
use Rattle.real.specs.Sign.{below}

-- a / c = b / d
pub value_same : (x : Float) (s : Bool) (a c b d : ℕ) → 0 < c → b * c ≡ a * d → HasValue x s a c → HasValue x s b d
value_same (fin t m z) s a c b d C e v = (
  v.0,
  eq_of_mul-eq-mul_right c C (m * up z * d) (b * down z)
      (rw (mul_right_comm (m * up z) d c, v.1, mul_right_comm b (down z) c, e) (mul_right_comm a (down z) d)),
)
value_same lib.Ieee.nan s a c b d C e v = elim v [ ]
value_same (lib.Ieee.inf _) s a c b d C e v = elim v [ ]

pub value_tells : (x : Float) (s t : Bool) (a b c : ℕ) → HasValue x s a c → HasValue x t b c → (s ≡ t) × (a ≡ b)
value_tells (fin u m z) s t a b c v w = (sym v.0 ∙ w.0, eq_of_mul-eq-mul_right (down z) (down_pos z) a b (sym v.1 ∙ w.1))
value_tells lib.Ieee.nan s t a b c v w = elim v [ ]
value_tells (lib.Ieee.inf _) s t a b c v w = elim v [ ]

pub value_neg : (x : Float) (s : Bool) (a c : ℕ) → HasValue x s a c → HasValue (neg x) (not s) a c
unfolding neg
value_neg (fin t m z) s a c v = (ap not v.0, v.1)
value_neg lib.Ieee.nan s a c v = elim v [ ]
value_neg (lib.Ieee.inf _) s a c v = elim v [ ]

pub value_finite : (x : Float) (s : Bool) (a c : ℕ) → HasValue x s a c → T (finite x)
value_finite (fin t m z) s a c v = tt
value_finite lib.Ieee.nan s a c v = elim v [ ]
value_finite (lib.Ieee.inf _) s a c v = elim v [ ]

pub finite_number : (x : Float) → T (finite x) → T (not (is_nan x))
unfolding is_nan
finite_number (fin t m z) h = tt
finite_number lib.Ieee.nan h = elim h [ ]
finite_number (lib.Ieee.inf _) h = elim h [ ]

-- up to 2 ^ prec an integer is a double
pub integer-value : (z : ℤ) → nat_abs z ≤ 2 ^ prec binary64 → HasValue (of_int binary64 z) (below z) (nat_abs z) 1
unfolding of_int
integer-value (pos n) h = round_whole binary64 false n h
integer-value (negsuc n) h = round_whole binary64 true (suc n) h

-- as the machine asks it before it makes an integer a double
pub integer_in : (z : ℤ) → nat_abs z ≤ 2 ^ prec binary64 → T (in_float binary64 z)
unfolding in_float
integer_in (pos n) h = le→leb n (2 ^ prec binary64) h
integer_in (negsuc n) h = lt→ltb n (2 ^ prec binary64) h

pub unlike_false : (s : Bool) → unlike s false ≡ s
unlike_false true = refl
unlike_false false = refl

-- a / e = m and b / g = d, so a g / (b e) = m / d
cross : (a b e g m d : ℕ) → a * 1 ≡ m * e → b * 1 ≡ d * g → a * g * d ≡ m * (b * e)
cross a b e g m d v w = rw (← mul-one a, v, ← mul-one b, w) (simp (mul_assoc, mul_comm, mul_left_comm))

-- the quotient of two doubles that are whole is the fraction of the two numbers, rounded
pub quotient_round : (f : Format) (x y : Float) (s : Bool) (m d : ℕ) → 0 < d → HasValue x s m 1 → HasValue y false d 1
    → div f x y ≡ round f s m d
unfolding div
quotient_round f (fin t a e) (fin u b g) s m d D v w =
    let over : 0 < b * up g = omega (arith, w.1, mul-pos D (down_pos g)) in
    let same = cross (a * up e) (b * up g) (down e) (down g) m d v.1 w.1 in
    rw (ne_eqb b 0 (omega (arith, first_pos b (up g) over)), v.0, w.0, unlike_false s)
    (round_same f s (a * up e * down g) (b * up g * down e) m d (mul-pos over (down_pos e)) D same)
quotient_round f lib.Ieee.nan y s m d D v w = elim v [ ]
quotient_round f (lib.Ieee.inf _) y s m d D v w = elim v [ ]
quotient_round f (fin t a e) lib.Ieee.nan s m d D v w = elim w [ ]
quotient_round f (fin t a e) (lib.Ieee.inf _) s m d D v w = elim w [ ]
