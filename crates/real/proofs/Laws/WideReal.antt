-- What a text says as Some (real by the) option.
--     off-is, on-is           with the option off it is what it was; with it on, a plain decimal is read the same
--     marked-is               and what is no plain decimal is read with its exponent
--     Said, with-said         a text that says a number has its double: near the number, and no double is nearer
--     with_not, with-is       a text that says none has no double, and one that has a double says a number
--     near-written            near in the three forms of 2026-10
--     plain_over, over_plain  which for the exponent 0 is as 01 has it
--     said-finer, said-tells  different numbers never give the same double, whichever way either is read
--     with-few                the places are at most 9
--     at-zero, at_far, ..     the double by the tests that the code makes
-- Assumes nothing.
use mathlib.Core.Path.{◌≡◌, refl, sym, ap, ◌∙◌}
use Prim.Native.Nat.{ℕ, zero, suc, ◌+◌, ◌-◌, ◌*◌, ◌^◌, ◌≤◌, ◌<◌}
use native.Mathlib.Omega.{arith}
use native.Mathlib.Nat.{zero-mul, mul-one, eq_of_mul-eq-mul_right}
use borrow.Author.Tests.{le-leb, lt-leb, leb-true, ne_eqb}
use mathlib.Core.Bool.{Bool, true, false, cond, ◌&&◌, ◌||◌}
use mathlib.Core.List.{List}
use lib.Dec.{T, leb, eqb, eqb-suc-zero}
use lib.Ieee.{Float, binary64, fits}
use lib.Ieee.Fits.{round-fits}
use Rattle.std.specs.Prelude.{Option, Some, None, option_map}
use Rattle.number.specs.Decimal.{plain, decimal_of}
use Rattle.number.specs.Wide.{wide, marked_of, without_mark, wide_of, WideLimits}
use Rattle.number.specs.declared.decimal.Decimal.{Decimal}
use Rattle.number.specs.declared.wide.Wide.{Wide}
use Rattle.number.proofs.Laws.Choice.{and_left, and_right, chosen}
use Rattle.number.proofs.Laws.Width.{decimal_limits}
use Rattle.number.proofs.Laws.Wide.{wide_limits}
use Rattle.real.specs.Double.{double_of}
use Rattle.real.specs.Near.{NearOver, apart}
use Rattle.real.specs.Nearest.{NearestDouble}
use Rattle.real.specs.Real.{real, real_of}
use Rattle.real.specs.Wide.{raised, lowered, nearest_to, in_reach, raised_in, lowered_in, wide_double, within, doubled, wide_real, real_with, said_with, scale_with, Low, High, Close, NearWritten}
use Rattle.real.specs.declared.Real.{Real}
use Rattle.real.proofs.Laws.Quotient.{ten_pos, double-near}
use Rattle.real.proofs.Laws.Real.{real-near, real-is, real_not}
use Rattle.real.proofs.Laws.Tells.{wide-tells, near-finer}
use Rattle.real.proofs.Laws.Wide.{zero-nearest, over-nearest, wide-near, wide-nearest, zero-near, zero-double}

-- ---- the double, by the two powers of ten
-- what is read of a number with the powers a and b
abbrev read_by : Bool → ℕ → ℕ → ℕ → ℕ → Option Real
read_by s m p a b = cond (in_reach m a b) (Some (real (nearest_to s m a b) p)) None

within-is : (s : Bool) (m p : ℕ) (lower : Bool) (x : ℕ) → wide_real (Some (wide (plain s m p) lower x)) ≡ read_by s m p (raised lower x p) (lowered lower x p)
within-is s m p lower x = go (in_reach m (raised lower x p) (lowered lower x p))
  where
    go : (q : Bool) → doubled (cond q (Some (wide (plain s m p) lower x)) None) ≡ cond q (Some (real (nearest_to s m (raised lower x p) (lowered lower x p)) p)) None
    go true = refl
    go false = refl

module _ (s : Bool) (m p : ℕ) (lower : Bool) (x a b : ℕ) (e : raised lower x p ≡ a) (f : lowered lower x p ≡ b) where
  by_powers : wide_real (Some (wide (plain s m p) lower x)) ≡ read_by s m p a b
  by_powers = within-is s m p lower x ∙ ap (λ (a : ℕ). read_by s m p a (lowered lower x p)) e ∙ ap (λ (b : ℕ). read_by s m p a b) f

  wide_is : a ≤ 22 → b ≤ 22 → wide_real (Some (wide (plain s m p) lower x)) ≡ Some (real (nearest_to s m a b) p)
  wide_is h i = by_powers ∙ rw (le-leb a 22 h, le-leb b 22 i) (either (eqb m 0))
    where
      either : (q : Bool) → cond (q || true) (Some (real (nearest_to s m a b) p)) None ≡ Some (real (nearest_to s m a b) p)
      either true = refl
      either false = refl

  wide_far : (m ≡ 0 → ⊥) → leb a 22 && leb b 22 ≡ false → wide_real (Some (wide (plain s m p) lower x)) ≡ None
  wide_far M h = by_powers ∙ rw (ne_eqb m 0 M, h) refl

pub wide-zero : (s : Bool) (m p : ℕ) (lower : Bool) (x : ℕ) → m ≡ 0 → wide_real (Some (wide (plain s m p) lower x)) ≡ Some (real (nearest_to s 0 0 0) p)
wide-zero s m p lower x e = rw e (ap (λ (y : Float). Some (real y p)) (zero-nearest s (raised lower x p) (lowered lower x p)))

-- ---- a plain decimal is one with the exponent 0
plain-nearest : (s : Bool) (m p : ℕ) → m < 10 ^ 10 → p ≤ 9 → double_of s m p ≡ nearest_to s m 0 p
unfolding double_of
plain-nearest s m p few short = over-nearest s m p few (omega arith)

plain-wide : (s : Bool) (m p : ℕ) → m < 10 ^ 10 → p ≤ 9 → wide_real (Some (wide (plain s m p) false 0)) ≡ Some (real (double_of s m p) p)
plain-wide s m p few short =
    wide_is s m p false 0 0 p (omega arith) (omega arith) (omega arith) (omega arith)
    ∙ ap (λ (y : Float). Some (real y p)) (sym (plain-nearest s m p few short))

pub off-is : (t : List ℕ) → real_with false t ≡ real_of t
unfolding real_with
off-is t = refl

pub on-is : (t : List ℕ) {x : Float} {p : ℕ} → real_of t ≡ Some (real x p) → (on : Bool) → real_with on t ≡ Some (real x p)
unfolding real_with wide_of
on-is t e false = e
on-is t {x} {p} e true =
    let (s, m, d, near) = real-near t e in
    let l = decimal_limits t d in
    rw d (plain-wide s m p l.0 l.1) ∙ sym (real-is t d) ∙ e

pub marked-is : (t : List ℕ) → real_of t ≡ None → real_with true t ≡ wide_real (marked_of t)
unfolding real_with wide_of
marked-is t e = rw ((real_not t).1 e) refl

-- ---- what is read is near the written number
reach_near : (s : Bool) (m a b : ℕ) → m < 10 ^ 10 → in_reach m a b ≡ true
    → NearOver 126 s (m * 10 ^ a) b (nearest_to s m a b) × NearestDouble s (m * 10 ^ a) (10 ^ b) (nearest_to s m a b)
    × ((m ≡ 0 → ⊥) → a ≤ 22)
reach_near s zero a b few e = (zero-near 126 s a b, zero-double s a b, λ some. absurd (some refl))
reach_near s (suc m) a b few e =
    let both : leb a 22 && leb b 22 ≡ true = rw (eqb-suc-zero m) at e in
    let h = leb-true a 22 (and_left (leb a 22) (leb b 22) both) in
    let k = leb-true b 22 (and_right (leb a 22) (leb b 22) both) in
    (wide-near s (suc m) a b few h k, wide-nearest s (suc m) a b few h k, λ some. h)

nearest-held : (s : Bool) (m a b : ℕ) → T (fits binary64 (nearest_to s m a b))
unfolding nearest_to
nearest-held s m a b = round-fits binary64 s (m * 10 ^ a) (10 ^ b)

-- a text says a number with the sign s, M, p and x, and its double is y
pub record Said (on : Bool) (t : List ℕ) (s : Bool) (m p : ℕ) (lower : Bool) (x : ℕ) : Type 0 where
  pub double : Float
  pub is : real_with on t ≡ Some (real double p)
  pub few : m < 10 ^ 10
  pub short : p ≤ 9
  pub high : (m ≡ 0 → ⊥) → raised lower x p ≤ 22
  pub held : T (fits binary64 double)
  pub near : NearOver (scale_with on) s (m * 10 ^ raised lower x p) (lowered lower x p) double
  pub nearest : NearestDouble s (m * 10 ^ raised lower x p) (10 ^ lowered lower x p) double

-- the powers of a plain decimal
module _ (p : ℕ) where
  plain-raised : raised false 0 p ≡ 0
  plain-raised = omega arith

  plain-lowered : lowered false 0 p ≡ p
  plain-lowered = omega arith

pub plain_over : {t : ℕ} {s : Bool} {m p : ℕ} {y : Float} → NearOver t s m p y → NearOver t s (m * 10 ^ raised false 0 p) (lowered false 0 p) y
plain_over {m = m} {p} h = rw (plain-raised p, plain-lowered p, mul-one m) h

pub over_plain : {t : ℕ} {s : Bool} {m p : ℕ} {y : Float} → NearOver t s (m * 10 ^ raised false 0 p) (lowered false 0 p) y → NearOver t s m p y
over_plain {m = m} {p} h = rw (plain-raised p, plain-lowered p, mul-one m) at h

plain-said : (t : List ℕ) {s : Bool} {m p : ℕ} → decimal_of t ≡ Some (plain s m p) → Said false t s m p false 0
plain-said t {s} {m} {p} e =
    let l = decimal_limits t e in
    let same = plain-nearest s m p l.0 l.1 in
    record {
      double = double_of s m p;
      is = off-is t ∙ real-is t e;
      few = l.0;
      short = l.1;
      high = λ some. omega arith;
      held = rw same (nearest-held s m 0 p);
      near = plain_over (double-near s m p l.0 l.1);
      nearest = rw (plain-raised p, plain-lowered p, same) (wide-nearest s m 0 p l.0 (omega arith) (omega arith));
    }

wide-said : (t : List ℕ) {s : Bool} {m p : ℕ} {lower : Bool} {x : ℕ} → within (wide_of t) ≡ Some (wide (plain s m p) lower x) → Said true t s m p lower x
unfolding real_with
wide-said t {s} {m} {p} {lower} {x} e = go (wide_of t) refl (wide_limits t) e
  where
    go : (w : Option Wide) → wide_of t ≡ w → WideLimits w → within w ≡ Some (wide (plain s m p) lower x) → Said true t s m p lower x
    go None d l e = absurd (let z : ◌≡◌ {A = ℕ} 0 1 = cc in omega arith)
    go (Some v) d l e =
        let q = in_reach v.decimal.digits (raised_in v) (lowered_in v) in
        let (c, r) = chosen q (Some v) None e (λ q. cc) in
        let same : v ≡ wide (plain s m p) lower x = cc in
        let digits = ap (λ (v : Wide). v.decimal.digits) same in
        let places = ap (λ (v : Wide). v.decimal.places) same in
        let low = ap (λ (v : Wide). v.lower) same in
        let exponent = ap (λ (v : Wide). v.exponent) same in
        let a = raised lower x p in
        let b = lowered lower x p in
        let reach : in_reach m a b ≡ true = rw (digits, places, low, exponent) at c in
        let few : m < 10 ^ 10 = rw digits at l.0 in
        let (near, nearest, high) = reach_near s m a b few reach in
        record {
          double = nearest_to s m a b;
          is = ap doubled (ap within d ∙ e);
          few = few;
          short = rw places at l.1;
          high = high;
          held = nearest-held s m a b;
          near = near;
          nearest = nearest;
        }

pub with-said : (on : Bool) (t : List ℕ) {s : Bool} {m p : ℕ} {lower : Bool} {x : ℕ} → said_with on t ≡ Some (wide (plain s m p) lower x)
    → Said on t s m p lower x
with-said true t e = wide-said t e
with-said false t {s} {m} {p} {lower} {x} e = go (decimal_of t) refl e
  where
    go : (d : Option Decimal) → decimal_of t ≡ d → without_mark d None ≡ Some (wide (plain s m p) lower x) → Said false t s m p lower x
    go None d e = absurd (let z : ◌≡◌ {A = ℕ} 0 1 = cc in omega arith)
    go (Some n) d e =
        let same : wide n false 0 ≡ wide (plain s m p) lower x = cc in
        let sign = ap (λ (v : Wide). v.decimal.minus) same in
        let digits = ap (λ (v : Wide). v.decimal.digits) same in
        let places = ap (λ (v : Wide). v.decimal.places) same in
        let low = ap (λ (v : Wide). v.lower) same in
        let exponent = ap (λ (v : Wide). v.exponent) same in
        rw (← sign, ← digits, ← places, ← low, ← exponent) (plain-said t d)

pub with_not : (on : Bool) (t : List ℕ) → said_with on t ≡ None → real_with on t ≡ None
unfolding real_with
with_not true t e = ap doubled e
with_not false t e = (real_not t).0 (go (decimal_of t) e)
  where
    go : (d : Option Decimal) → without_mark d None ≡ None → d ≡ None
    go None e = refl
    go (Some d) e = cc

-- what a text says whose double is v, with the places p
pub record Saying (on : Bool) (t : List ℕ) (y : Float) (p : ℕ) : Type 0 where
  pub is_minus : Bool
  pub m : ℕ
  pub lower : Bool
  pub x : ℕ
  pub says : said_with on t ≡ Some (wide (plain is_minus m p) lower x)
  pub few : m < 10 ^ 10
  pub short : p ≤ 9
  pub high : (m ≡ 0 → ⊥) → raised lower x p ≤ 22
  pub near : NearOver (scale_with on) is_minus (m * 10 ^ raised lower x p) (lowered lower x p) y

pub with-is : (on : Bool) (t : List ℕ) {y : Float} {p : ℕ} → real_with on t ≡ Some (real y p) → Saying on t y p
with-is on t {y} {p} e = go (said_with on t) refl
  where
    of : (s : Bool) (m q : ℕ) (lower : Bool) (x : ℕ) (v : Float) → said_with on t ≡ Some (wide (plain s m q) lower x) → real_with on t ≡ Some (real v q) → m < 10 ^ 10 → q ≤ 9
        → ((m ≡ 0 → ⊥) → raised lower x q ≤ 22) → NearOver (scale_with on) s (m * 10 ^ raised lower x q) (lowered lower x q) v → Saying on t y p
    of s m q lower x v says is few short high near =
        let both : real v q ≡ real y p = cc in
        let same = ap (λ (r : Real). r.value) both in
        let places = ap (λ (r : Real). r.places) both in
        record {
          is_minus = s;
          m = m;
          lower = lower;
          x = x;
          says = rw places at says;
          few = few;
          short = rw places at short;
          high = rw places at high;
          near = rw (places, same) at near;
        }

    go : (w : Option Wide) → said_with on t ≡ w → Saying on t y p
    go None d = absurd (let n = with_not on t d in let z : ◌≡◌ {A = ℕ} 0 1 = cc in omega arith)
    go (Some w) d =
        let n = w.decimal in
        let h = with-said on t d in of n.minus n.digits n.places w.lower w.exponent h.double d h.is h.few h.short h.high h.near

pub with-few : (on : Bool) (t : List ℕ) {y : Float} {p : ℕ} → real_with on t ≡ Some (real y p) → p ≤ 9
with-few on t e = (with-is on t e).short

-- ---- in the three forms
module _ (t : ℕ) where
  low_of : (v m a b k : ℕ) → a ≡ 0 → b ≡ k → apart (v * 10 ^ b) (m * 10 ^ a * 2 ^ t) * 2 ^ 53 ≤ m * 10 ^ a * 2 ^ t → Low t v m k
  low_of v m a b k d e h = rw (d, e, mul-one m) at h

  high-of : (v m a b k : ℕ) → a ≡ k → b ≡ 0 → apart (v * 10 ^ b) (m * 10 ^ a * 2 ^ t) * 2 ^ 53 ≤ m * 10 ^ a * 2 ^ t → High t v m k
  high-of v m a b k d e h = rw (d, e, mul-one v) at h

  none : (x : ℕ) → apart x 0 * 2 ^ 53 ≤ 0 → x ≡ 0
  none x h = omega arith

  zero_of : (v m a b : ℕ) → apart (v * 10 ^ b) (m * 10 ^ a * 2 ^ t) * 2 ^ 53 ≤ m * 10 ^ a * 2 ^ t → m ≡ 0 → v ≡ 0
  zero_of v m a b h e =
      let flat = rw (e, zero-mul (10 ^ a), zero-mul (2 ^ t)) at h in
      eq_of_mul-eq-mul_right (10 ^ b) (ten_pos b) v 0 (none (v * 10 ^ b) flat ∙ sym (zero-mul (10 ^ b)))

  close_at : (lower : Bool) (v m p x : ℕ)
      → apart (v * 10 ^ lowered lower x p) (m * 10 ^ raised lower x p * 2 ^ t) * 2 ^ 53 ≤ m * 10 ^ raised lower x p * 2 ^ t → Close t v m p lower x
  close_at true v m p x h = (low_of v m 0 (p + x) (p + x) refl refl h, zero_of v m 0 (p + x) h)
  close_at false v m p x h = (
    λ le. low_of v m (x - p) (p - x) (p - x) (omega arith) refl h,
    λ lt. high-of v m (x - p) (p - x) (x - p) refl (omega arith) h,
    zero_of v m (x - p) (p - x) h,
  )

  pub near-written : {s : Bool} {m p : ℕ} {lower : Bool} {x : ℕ} {y : Float}
      → NearOver t s (m * 10 ^ raised lower x p) (lowered lower x p) y → NearWritten t s m p lower x y
  near-written {m = m} {p} {lower} {x} h =
      record { parts = h.parts; value = h.value; close = close_at lower h.parts m p x h.close }

-- ---- over 2 ^ 126, whichever way a number is read
pub said-finer : (on : Bool) {s : Bool} {n b : ℕ} {y : Float} → NearOver (scale_with on) s n b y → NearOver 126 s n b y
said-finer true h = h
said-finer false h = near-finer 44 h

pub said-tells : (on one : Bool) (s r : Bool) (m n a b c d : ℕ) (y : Float) → NearOver (scale_with on) s (m * 10 ^ a) b y
    → NearOver (scale_with one) r (n * 10 ^ c) d y → m < 10 ^ 10 → n < 10 ^ 10 → (s ≡ r) × (m * 10 ^ a * 10 ^ d ≡ n * 10 ^ c * 10 ^ b)
said-tells on one s r m n a b c d y h k few less = wide-tells 126 s r m n a b c d y (said-finer on h) (said-finer one k) few less

-- ---- the double, by the tests that the code makes
module _ (s : Bool) (m p : ℕ) (lower : Bool) (x : ℕ) where
  pub at_zero : (r : Float) → m ≡ 0 → r ≡ nearest_to s 0 0 0 → Some (real r p) ≡ wide_real (Some (wide (plain s m p) lower x))
  at_zero r e f = ap (λ (y : Float). Some (real y p)) f ∙ sym (wide-zero s m p lower x e)

  far_by : (l : Bool) → (m ≡ 0 → ⊥) → p ≤ 9 → 31 < x → None ≡ wide_real (Some (wide (plain s m p) l x))
  far_by true M short h =
      sym (wide_far s m p true x 0 (p + x) refl refl M (lt-leb (p + x) 22 (omega arith)))
  far_by false M short h =
      sym (wide_far s m p false x (x - p) (p - x) refl refl M (rw (lt-leb (x - p) 22 (omega arith)) refl))

  pub at_far : (m ≡ 0 → ⊥) → p ≤ 9 → 31 < x → None ≡ wide_real (Some (wide (plain s m p) lower x))
  at_far = far_by lower

  module _ (e : lower ≡ true) where
    pub lower_far : (m ≡ 0 → ⊥) → 22 < p + x → None ≡ wide_real (Some (wide (plain s m p) lower x))
    lower_far M h = rw e (sym (wide_far s m p true x 0 (p + x) refl refl M (lt-leb (p + x) 22 h)))

    pub lower-near : (r : Float) → p + x ≤ 22 → r ≡ nearest_to s m 0 (p + x) → Some (real r p) ≡ wide_real (Some (wide (plain s m p) lower x))
    lower-near r h f = rw e (ap (λ (y : Float). Some (real y p)) f ∙ sym (wide_is s m p true x 0 (p + x) refl refl (omega arith) h))

  module _ (e : lower ≡ false) where
    pub higher_far : (m ≡ 0 → ⊥) → 22 < x - p → None ≡ wide_real (Some (wide (plain s m p) lower x))
    higher_far M h = rw e (sym (wide_far s m p false x (x - p) (p - x) refl refl M (rw (lt-leb (x - p) 22 h) refl)))

    pub higher_over : (r : Float) → x ≤ p → p ≤ 9 → r ≡ nearest_to s m 0 (p - x) → Some (real r p) ≡ wide_real (Some (wide (plain s m p) lower x))
    higher_over r h short f = rw e (ap (λ (y : Float). Some (real y p)) f ∙ sym (wide_is s m p false x 0 (p - x) (omega arith) refl (omega arith) (omega arith)))

    pub higher_times : (r : Float) → p < x → x - p ≤ 22 → r ≡ nearest_to s m (x - p) 0 → Some (real r p) ≡ wide_real (Some (wide (plain s m p) lower x))
    higher_times r h i f = rw e (ap (λ (y : Float). Some (real y p)) f ∙ sym (wide_is s m p false x (x - p) 0 refl (omega arith) i (omega arith)))

-- ---- the double alone, and with the places
pub double_by : {r : Option Real} (w : Wide) → r ≡ wide_real (Some w) → option_map (λ (r : Real). r.value) r ≡ wide_double w
double_by w e = ap (option_map (λ (r : Real). r.value)) e

pub double_real : (w : Wide) → option_map (λ (v : Float). real v w.decimal.places) (wide_double w) ≡ wide_real (Some w)
double_real w = go (in_reach w.decimal.digits (raised_in w) (lowered_in w))
  where
    go : (q : Bool) → option_map (λ (v : Float). real v w.decimal.places) (option_map (λ (r : Real). r.value) (doubled (cond q (Some w) None)))
        ≡ doubled (cond q (Some w) None)
    go true = refl
    go false = refl
