-- The double of a whole number over a power of ten is near the written number, and so is that double with its sign turned.
-- The numbers: a double has 53 digits, and its units are 1 / 2 ^ 1074. As 10 ^ 9 ≤ 2 ^ 30, the last digit of such a quotient stands
-- no lower than 30 + 52 = 82 places below the point, so the quotient is a multiple of 2 ^ 992 units. With exponents 10 ^ 22 ≤ 2 ^ 74, and it is 74 + 52 = 126
-- places, and 948.
-- Assumes nothing.
use mathlib.Core.Path.{◌≡◌, refl, sym, ◌∙◌}
use Prim.Native.Nat.{ℕ, zero, suc, ◌+◌, ◌*◌, ◌^◌, ◌≤◌, ◌<◌}
use native.Mathlib.Nat.{le_refl, le_trans, le_of_lt, lt_of_lt_of_le, add-lt-add_of_lt_of_le}
use native.Mathlib.Nat.{zero-lt-suc, zero-mul, one-le-pow, pow-le-pow_right}
use native.Mathlib.Omega.{arith}
use mathlib.Core.Bool.{Bool, true, false, not}
use lib.Dec.{lit≤}
use lib.IntN.{ℤ, pos, nat_abs}
use lib.Pow.{pow_pos}
use lib.Ieee.{Float, Format, binary64, prec, low, div, neg, of_int, round}
use lib.Ieee.Exact.{HasValue, units_val, round_exact}
use lib.Ieee.Fits.{round_is}
use lib.Ieee.Order.{drop, kept}
use lib.Ieee.Scale.{grid, overflow}
use Rattle.real.specs.Double.{double_of}
use Rattle.real.specs.Near.{Near, NearOver}
use Rattle.real.specs.Real.{ten_thousandth}
use Rattle.real.specs.Sign.{below}
use Rattle.real.proofs.Laws.Kept.{Parts, kept-parts, parts-value, parts_lt}
use Rattle.real.proofs.Laws.Value.{value_same, value_neg, integer-value, quotient_round}

pub ten_pos : (p : ℕ) → 0 < 10 ^ p
ten_pos p = one-le-pow p 10 (zero-lt-suc 9)

pub ten_le : (p q b : ℕ) → p ≤ q → 10 ^ q ≤ b → 10 ^ p ≤ b
ten_le p q b short h = le_trans (pow-le-pow_right (zero-lt-suc 9) short) h

-- what rounds without an overflow, in the format's units
round_value : (f : Format) (s : Bool) (m d : ℕ) → grid f m d < overflow f → HasValue (round f s m d) s (grid f m d) (2 ^ low f)
round_value f s m d h =
    let n = m * 2 ^ low f in
    rw (round_is f s m d) (units_val f s (kept (prec f) n d) (drop (prec f) n d) h)

pub zero-value : (t : ℕ) (s : Bool) (p : ℕ) → HasValue (round binary64 s 0 (10 ^ p)) s 0 (2 ^ t)
zero-value t s p =
    let d = 10 ^ p in
    let none = zero-mul d in
    let exact = round_exact binary64 s 0 d 0 0 (ten_pos p) (pow_pos 53) (pow_pos 2098) (sym none) in
    value_same (round binary64 s 0 d) s 0 d 0 (2 ^ t) (ten_pos p) (none ∙ sym (zero-mul (2 ^ t))) exact

pub round_zero : (t : ℕ) (s : Bool) (p : ℕ) → NearOver t s 0 p (round binary64 s 0 (10 ^ p))
round_zero t s p = record { parts = 0; value = zero-value t s p; close = rw (zero-mul (10 ^ p), zero-mul (2 ^ t)) (le_refl 0) }

-- 10 ^ p ≤ 2 ^ r, t = r + 52, and 1074 = t + g
module _ (g r t : ℕ) (sum : r + 52 ≡ t) (all : t + g ≡ 1074) (s : Bool) (n p : ℕ) (some : 0 < n) (room : n + n < 2 ^ 1024)
    (short : 10 ^ p ≤ 2 ^ r) where
  grid_parts : Parts 52 g t n (10 ^ p) (grid binary64 n (10 ^ p))
  grid_parts = rw (sum, all) at (kept-parts 52 g r n (10 ^ p) some (ten_pos p) short)

  pub grid_low : grid binary64 n (10 ^ p) < overflow binary64
  grid_low = rw (two, all) at (parts_lt 52 g t n (10 ^ p) (grid binary64 n (10 ^ p)) grid_parts 1024 (ten_pos p) room)
    where
      two : 1024 + t + g ≡ 1024 + (t + g)
      two = omega arith

  pub round_some : NearOver t s n p (round binary64 s n (10 ^ p))
  round_some =
      let d = 10 ^ p in
      let v = grid binary64 n d in
      let c = grid_parts in
      let same : c.parts * 2 ^ 1074 ≡ v * 2 ^ t = rw all at (parts-value 52 g t n d v c) in
      record {
        parts = c.parts;
        value = value_same (round binary64 s n d) s v (2 ^ 1074) c.parts (2 ^ t) (pow_pos 1074) same (round_value binary64 s n d grid_low);
        close = c.close;
      }

round_near : (s : Bool) (m p : ℕ) → m < 10 ^ 10 → p ≤ 9 → Near s m p (round binary64 s m (10 ^ p))
round_near s zero p few short = round_zero 82 s p
round_near s (suc m) p few short =
    let room : suc m + suc m < 2 ^ 1024 = lt_of_lt_of_le (add-lt-add_of_lt_of_le few (le_of_lt few)) (lit≤ tt) in
    round_some 992 30 82 refl refl s (suc m) p (zero-lt-suc m) room (ten_le p 9 (2 ^ 30) short (lit≤ tt))

pub quotient_near : (x y : Float) (s : Bool) (m p : ℕ) → HasValue x s m 1 → HasValue y false (10 ^ p) 1 → m < 10 ^ 10 → p ≤ 9
    → Near s m p (div binary64 x y)
quotient_near x y s m p v w few short = rw (quotient_round binary64 x y s m (10 ^ p) (ten_pos p) v w) (round_near s m p few short)

pub neg_near : {s : Bool} {m p : ℕ} {x : Float} → Near s m p x → Near (not s) m p (neg x)
neg_near {s} {x = x} h = record { parts = h.parts; value = value_neg x s h.parts (2 ^ 82) h.value; close = h.close }

-- an integer over a power of ten
integer-over : (z : ℤ) (p : ℕ) → nat_abs z < 10 ^ 10 → p ≤ 9
    → Near (below z) (nat_abs z) p (div binary64 (of_int binary64 z) (of_int binary64 (pos (10 ^ p))))
integer-over z p few short =
    let x = integer-value z (le_trans (le_of_lt few) (lit≤ tt)) in
    let y = integer-value (pos (10 ^ p)) (ten_le p 9 (2 ^ 53) short (lit≤ tt)) in
    quotient_near (of_int binary64 z) (of_int binary64 (pos (10 ^ p))) (below z) (nat_abs z) p x y few short

pub integer-near : (z : ℤ) → nat_abs z < 10 ^ 10 → Near (below z) (nat_abs z) 4 (ten_thousandth z)
unfolding ten_thousandth
integer-near z few = integer-over z 4 few (lit≤ tt)

pub double-near : (s : Bool) (m p : ℕ) → m < 10 ^ 10 → p ≤ 9 → Near s m p (double_of s m p)
unfolding double_of
double-near false m p few short = integer-over (pos m) p few short
double-near true m p few short = neg_near (integer-over (pos m) p few short)
