-- The doubles of numbers with an exponent: one product or one quotient of two whole doubles, each exact, so rounded once.
--     ten_two                         powers of ten up to 10 ^ 22 are exact doubles, so the product of two is
--     over-nearest, times_nearest     the code's two ways are the nearest double
--     wide-nearest, zero-nearest      which no double is nearer than; that of 0 goes by no power
--     wide-near                       it is so near as demand 3 asks, over 2 ^ 126
--     size-under                      and not large
--     few_in                          what the machine asks before it makes an integer a double
-- Assumes nothing.
use mathlib.Core.Path.{◌≡◌, refl, sym, ap, ◌∙◌}
use Prim.Native.Nat.{ℕ, zero, suc, ◌+◌, ◌-◌, ◌*◌, ◌^◌, ◌≤◌, ◌<◌, zero-le}
use native.Mathlib.Nat.{add-lt-add_of_lt_of_le, le_trans, le_of_lt, lt_of_lt_of_le, lt_of_le_of_lt, zero-lt-suc, zero-mul, mul-one, pow-le-pow_right}
use native.Mathlib.Nat.{mul_assoc, mul_comm, mul_left_comm, mul-pos, pow-succ', mul-lt-mul_of_pos_right}
use native.Mathlib.Omega.{arith}
use mathlib.Core.Bool.{Bool, true, false, cond}
use lib.Dec.{T, lit≤, lit<, ltb}
use lib.IntN.{pos}
use lib.Pow.{pow-add, pow_mono, shl_lt}
use lib.Ieee.{Float, fin, inf, Format, binary64, prec, low, up, down, unlike, mul, div, neg, of_int, in_float, odd, units, round}
use lib.Ieee.Exact.{HasValue, round_exact}
use lib.Ieee.Fits.{round_is, down_pos}
use lib.Ieee.Order.{drop, kept}
use lib.Ieee.Scale.{overflow, round_same}
use Rattle.real.specs.Double.{sign_put}
use Rattle.real.specs.Near.{NearOver}
use Rattle.real.specs.Nearest.{NearestDouble}
use Rattle.real.specs.Wide.{nearest_to}
use Rattle.real.proofs.Laws.Nearest.{round_nearest}
use Rattle.real.proofs.Laws.Quotient.{ten_pos, ten_le, zero-value, round_zero, round_some, grid_low}
use Rattle.real.proofs.Laws.Value.{unlike_false, integer-value, integer_in, quotient_round}

-- ---- powers of ten that are exact
ten_split : (k : ℕ) → 10 ^ k ≡ 5 ^ k * 2 ^ k
ten_split zero = refl
ten_split (suc k) = rw (pow-succ' 10 k, pow-succ' 5 k, pow-succ' 2 k, ten_split k) (simp (mul_assoc, mul_comm, mul_left_comm) (omega arith))

-- 10 ^ k = 5 ^ k 2 ^ k, and 5 ^ 22 < 2 ^ 53
exact-at : (l k : ℕ) → 10 ^ k * 2 ^ l ≡ 5 ^ k * 2 ^ (k + l) * 1
exact-at l k = rw (ten_split k, pow-add 2 k l, mul-one (5 ^ k * (2 ^ k * 2 ^ l))) (mul_assoc (5 ^ k) (2 ^ k) (2 ^ l))

under_at : (e l k q : ℕ) → q < 2 ^ e → k ≤ 22 → e + (22 + l) ≤ 2098 → q * 2 ^ (k + l) < 2 ^ 2098
under_at e l k q h s r = lt_of_lt_of_le (shl_lt e (k + l) h) (pow_mono {i = e + (k + l)} {j = 2098} (omega arith))

ten_exact : (k : ℕ) → k ≤ 22 → HasValue (of_int binary64 (pos (10 ^ k))) false (10 ^ k) 1
unfolding of_int
ten_exact k h =
    let small : 5 ^ k < 2 ^ 53 = lt_of_le_of_lt (pow-le-pow_right (zero-lt-suc 4) h) (lit< tt) in
    round_exact binary64 false (10 ^ k) 1 (5 ^ k) (k + 1074) (zero-lt-suc 0) small (under_at 53 1074 k (5 ^ k) small h (lit≤ tt)) (exact-at 1074 k)

-- ---- one rounding
-- a / e = m and b / g = d, so a b / (e g) = m d
cross : (a b e g m d : ℕ) → a * 1 ≡ m * e → b * 1 ≡ d * g → a * b * 1 ≡ m * d * (e * g)
cross a b e g m d v w = rw (← mul-one a, v, ← mul-one b, w) (simp (mul-one, mul_assoc, mul_comm, mul_left_comm))

product_round : (f : Format) (x y : Float) (s : Bool) (m d : ℕ) → HasValue x s m 1 → HasValue y false d 1
    → mul f x y ≡ round f s (m * d) 1
unfolding mul
product_round f (fin t a e) (fin u b g) s m d v w =
    rw (v.0, w.0, unlike_false s)
    (round_same f s (a * up e * (b * up g)) (down e * down g) (m * d) 1 (mul-pos (down_pos e) (down_pos g)) (zero-lt-suc 0)
    (cross (a * up e) (b * up g) (down e) (down g) m d v.1 w.1))
product_round f lib.Ieee.nan y s m d v w = elim v [ ]
product_round f (inf _) y s m d v w = elim v [ ]
product_round f (fin t a e) lib.Ieee.nan s m d v w = elim w [ ]
product_round f (fin t a e) (inf _) s m d v w = elim w [ ]

-- two exact powers multiply to the double of their product
ten_product : (j k : ℕ) → j ≤ 22 → k ≤ 22
    → mul binary64 (of_int binary64 (pos (10 ^ j))) (of_int binary64 (pos (10 ^ k))) ≡ of_int binary64 (pos (10 ^ (j + k)))
unfolding of_int
ten_product j k h i =
    product_round binary64 (round binary64 false (10 ^ j) 1) (round binary64 false (10 ^ k) 1) false (10 ^ j) (10 ^ k) (ten_exact j h) (ten_exact k i)
    ∙ ap (λ (n : ℕ). round binary64 false n 1) (sym (pow-add 10 j k))

-- ---- the sign goes through
units_neg : (f : Format) (q k : ℕ) → neg (units f false q k) ≡ units f true q k
unfolding neg units odd
units_neg f zero k = go (ltb (zero * 2 ^ k) (overflow f))
  where
    go : (b : Bool) → neg (cond b (odd (suc (prec f)) false zero k (low f)) (inf false)) ≡ cond b (odd (suc (prec f)) true zero k (low f)) (inf true)
    go true = refl
    go false = refl
units_neg f (suc q) k = go (ltb (suc q * 2 ^ k) (overflow f))
  where
    go : (b : Bool) → neg (cond b (odd (suc (prec f)) false (suc q) k (low f)) (inf false)) ≡ cond b (odd (suc (prec f)) true (suc q) k (low f)) (inf true)
    go true = refl
    go false = refl

round_neg : (f : Format) (a b : ℕ) → neg (round f false a b) ≡ round f true a b
round_neg f a b = rw (round_is f false a b, round_is f true a b) (units_neg f (kept (prec f) (a * 2 ^ low f) b) (drop (prec f) (a * 2 ^ low f) b))

signed_round : (s : Bool) (a b : ℕ) → sign_put s (round binary64 false a b) ≡ round binary64 s a b
signed_round false a b = refl
signed_round true a b = round_neg binary64 a b

-- ---- the code's two ways
module _ (s : Bool) (m k : ℕ) (few : m < 10 ^ 10) (short : k ≤ 22) where
  whole : HasValue (of_int binary64 (pos m)) false m 1
  whole = integer-value (pos m) (le_trans (le_of_lt few) (lit≤ tt))

  pub over-nearest : sign_put s (div binary64 (of_int binary64 (pos m)) (of_int binary64 (pos (10 ^ k)))) ≡ nearest_to s m 0 k
  unfolding nearest_to
  over-nearest =
      ap (sign_put s) (quotient_round binary64 (of_int binary64 (pos m)) (of_int binary64 (pos (10 ^ k))) false m (10 ^ k) (ten_pos k) whole (ten_exact k short))
      ∙ signed_round s m (10 ^ k) ∙ rw (mul-one m) refl

  pub times_nearest : sign_put s (mul binary64 (of_int binary64 (pos m)) (of_int binary64 (pos (10 ^ k)))) ≡ nearest_to s m k 0
  unfolding nearest_to
  times_nearest =
      ap (sign_put s) (product_round binary64 (of_int binary64 (pos m)) (of_int binary64 (pos (10 ^ k))) false m (10 ^ k) whole (ten_exact k short))
      ∙ signed_round s (m * 10 ^ k) 1

-- ---- so near as demand 3 asks, over 2 ^ 126, and no double is nearer
pub size-under : (m a : ℕ) → m < 10 ^ 10 → a ≤ 22 → m * 10 ^ a < 2 ^ 107
size-under m a few h =
    let most : m * 10 ^ a < 10 ^ 10 * 10 ^ a = mul-lt-mul_of_pos_right few (ten_pos a) in
    let top : 10 + a ≤ 32 = omega arith in
    let all : 10 ^ 10 * 10 ^ a ≤ 10 ^ 32 = rw (← pow-add 10 10 a) (pow-le-pow_right (zero-lt-suc 9) top) in
    lt_of_lt_of_le most (le_trans all (lit≤ tt))

module _ (s : Bool) (m a b : ℕ) (few : m < 10 ^ 10) (high : a ≤ 22) (low : b ≤ 22) where
  room : m * 10 ^ a + m * 10 ^ a < 2 ^ 1024
  room = let under = size-under m a few high in lt_of_lt_of_le (add-lt-add_of_lt_of_le under (le_of_lt under)) (lit≤ tt)

  module _ (some : 0 < m) where
    some_near : NearOver 126 s (m * 10 ^ a) b (nearest_to s m a b)
    unfolding nearest_to
    some_near = round_some 948 74 126 refl refl s (m * 10 ^ a) b (mul-pos some (ten_pos a)) room (ten_le b 22 (2 ^ 74) low (lit≤ tt))

    some-nearest : NearestDouble s (m * 10 ^ a) (10 ^ b) (nearest_to s m a b)
    unfolding nearest_to
    some-nearest =
        round_nearest s (m * 10 ^ a) (10 ^ b) (ten_pos b)
        (grid_low 948 74 126 refl refl s (m * 10 ^ a) b (mul-pos some (ten_pos a)) room (ten_le b 22 (2 ^ 74) low (lit≤ tt)))

-- 0 is an exact double
pub zero-near : (t : ℕ) (s : Bool) (a b : ℕ) → NearOver t s (0 * 10 ^ a) b (nearest_to s 0 a b)
unfolding nearest_to
zero-near t s a b = rw (zero-mul (10 ^ a)) (round_zero t s b)

exact-nearest : (s : Bool) (d : ℕ) (x : Float) → HasValue x s 0 (2 ^ 1074) → NearestDouble s 0 d x
exact-nearest s d x v = record {
  units = 0;
  value = v;
  least = λ y other f h. rw (zero-mul d, zero-mul (2 ^ 1074)) zero-le;
  steps = 0;
  dropped = 0;
  split = refl;
  even = λ e. refl;
}

pub zero-double : (s : Bool) (a b : ℕ) → NearestDouble s (0 * 10 ^ a) (10 ^ b) (nearest_to s 0 a b)
unfolding nearest_to
zero-double s a b = rw (zero-mul (10 ^ a)) (exact-nearest s (10 ^ b) (round binary64 s 0 (10 ^ b)) (zero-value 1074 s b))

pub wide-near : (s : Bool) (m a b : ℕ) → m < 10 ^ 10 → a ≤ 22 → b ≤ 22 → NearOver 126 s (m * 10 ^ a) b (nearest_to s m a b)
wide-near s zero a b few h i = zero-near 126 s a b
wide-near s (suc m) a b few h i = some_near s (suc m) a b few h i (zero-lt-suc m)

pub wide-nearest : (s : Bool) (m a b : ℕ) → m < 10 ^ 10 → a ≤ 22 → b ≤ 22 → NearestDouble s (m * 10 ^ a) (10 ^ b) (nearest_to s m a b)
wide-nearest s zero a b few h i = zero-double s a b
wide-nearest s (suc m) a b few h i = some-nearest s (suc m) a b few h i (zero-lt-suc m)

pub zero-nearest : (s : Bool) (a b : ℕ) → nearest_to s 0 a b ≡ nearest_to s 0 0 0
unfolding nearest_to
zero-nearest s a b =
    round_same binary64 s (0 * 10 ^ a) (10 ^ b) 0 1 (ten_pos b) (zero-lt-suc 0) (rw (zero-mul (10 ^ a)) refl ∙ sym (zero-mul (10 ^ b)))

-- ---- the powers, as the code makes them
pub few_in : (n : ℕ) → n ≤ 100000000000 → T (in_float binary64 (pos n))
few_in n h = integer_in (pos n) (le_trans h (lit≤ tt))

pub ten_two : (x y : Float) (k : ℕ) → x ≡ of_int binary64 (pos (10 ^ 11)) → y ≡ of_int binary64 (pos (10 ^ (k - 11))) → 11 ≤ k → k ≤ 22
    → mul binary64 x y ≡ of_int binary64 (pos (10 ^ k))
ten_two x y k d e h i =
    let j : 11 + (k - 11) ≡ k = omega arith in
    let p = ten_product 11 (k - 11) (omega arith) (omega arith) in
    rw (d, e) (rw j at p)
