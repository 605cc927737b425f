-- Products and sums of doubles that are whole numbers over a power of two.
-- Assumes nothing.
use mathlib.Core.Path.{◌≡◌, refl, ◌∙◌}
use Prim.Native.Nat.{ℕ, ◌+◌, ◌-◌, ◌*◌, ◌^◌, ◌≤◌, ◌<◌}
use native.Mathlib.Nat.{le_of_lt, lt_of_le_of_lt, mul_assoc, mul_comm, mul_left_comm, mul_right_comm, mul-pos, add-mul, mul-sub, le_of_mul-le-mul_right, mul-le-mul_right}
use native.Mathlib.Omega.{arith}
use mathlib.Core.Bool.{Bool, true, false, not, cond}
use lib.Dec.{T, ltb, ltb→lt, nltb→le}
use lib.Pow.{pow-add, pow_pos}
use lib.Ieee.{Float, fin, Format, binary64, up, down, unlike, mul, add, sum, round}
use lib.Ieee.Exact.{HasValue}
use lib.Ieee.Fits.{down_pos}
use lib.Ieee.Scale.{round_same}
use Rattle.real.specs.Near.{apart}
use Rattle.matrix.proofs.Laws.Signed.{above, under}
use Rattle.matrix.proofs.Laws.Grid.{Rounded, round_over}

-- ---- a product
cross : (x y d e a b G K : ℕ) → x * G ≡ a * d → y * K ≡ b * e → x * y * (G * K) ≡ a * b * (d * e)
cross x y d e a b G K v w =
    let l : x * y * (G * K) ≡ x * G * (y * K) = simp (mul_assoc, mul_left_comm) in
    l ∙ rw (v, w) (simp (mul_assoc, mul_comm, mul_left_comm))

pub mul_is : (f : Format) (x y : Float) (s t : Bool) (a b g k : ℕ) → HasValue x s a (2 ^ g) → HasValue y t b (2 ^ k)
    → mul f x y ≡ round f (unlike s t) (a * b) (2 ^ (g + k))
unfolding mul
mul_is f (fin p m e) (fin q n d) s t a b g k v w =
    rw (v.0, w.0)
    (round_same f (unlike s t) (m * up e * (n * up d)) (down e * down d) (a * b) (2 ^ (g + k)) (mul-pos (down_pos e) (down_pos d)) (pow_pos (g + k))
    (rw (pow-add 2 g k) (cross (m * up e) (n * up d) (down e) (down d) a b (2 ^ g) (2 ^ k) v.1 w.1)))
mul_is f lib.Ieee.nan y s t a b g k v w = elim v [ ]
mul_is f (lib.Ieee.inf _) y s t a b g k v w = elim v [ ]
mul_is f (fin p m e) lib.Ieee.nan s t a b g k v w = elim w [ ]
mul_is f (fin p m e) (lib.Ieee.inf _) s t a b g k v w = elim w [ ]

-- ---- a sum
-- n with the sign r is the sum of a with the sign s and b with the sign t
pub record Sum (f : Format) (x y : Float) (s t : Bool) (a b g : ℕ) : Type 0 where
  pub sign : Bool
  pub size : ℕ
  pub is : add f x y ≡ round f sign size (2 ^ g)
  pub exact : above sign size + (under s a + under t b) ≡ under sign size + (above s a + above t b)
  pub within : size ≤ a + b

sub_times : (b a c : ℕ) → (b - a) * c ≡ b * c - a * c
sub_times b a c = rw (mul_comm (b - a) c, mul-sub c b a, mul_comm c b, mul_comm c a) refl

-- A / c is a / G, and B / c is b / G
module _ (f : Format) (A B a b c G : ℕ) (C : 0 < c) (P : 0 < G) (v : A * G ≡ a * c) (w : B * G ≡ b * c) where
  plus : (s : Bool) → round f s (A + B) c ≡ round f s (a + b) G
  plus s = round_same f s (A + B) c (a + b) G C P (rw (add-mul A B G, add-mul a b c, v, w) refl)

  less : (s : Bool) → round f s (B - A) c ≡ round f s (b - a) G
  less s = round_same f s (B - A) c (b - a) G C P (rw (sub_times B A G, sub_times b a c, v, w) refl)

  more : (s : Bool) → round f s (A - B) c ≡ round f s (a - b) G
  more s = round_same f s (A - B) c (a - b) G C P (rw (sub_times A B G, sub_times a b c, v, w) refl)

  up_order : A ≤ B → a ≤ b
  up_order h = le_of_mul-le-mul_right (rw (← v, ← w) (mul-le-mul_right G h)) C

  down_order : B ≤ A → b ≤ a
  down_order h = le_of_mul-le-mul_right (rw (← v, ← w) (mul-le-mul_right G h)) C

  -- the sum, by the signs
  sums : (s t : Bool) → (r : Bool) × (n : ℕ) × (sum f s A t B c ≡ round f r n G)
      × (above r n + (under s a + under t b) ≡ under r n + (above s a + above t b)) × (n ≤ a + b)
  unfolding sum
  sums false false = (false, a + b, plus false, omega arith, omega arith)
  sums true true = (true, a + b, plus true, omega arith, omega arith)
  sums false true = go (ltb A B) (ltb→lt A B) (nltb→le A B)
    where
      go : (q : Bool) → (T q → A < B) → (T (not q) → B ≤ A)
          → (r : Bool) × (n : ℕ) × (cond q (round f true (B - A) c) (round f false (A - B) c) ≡ round f r n G)
          × (above r n + (0 + b) ≡ under r n + (a + 0)) × (n ≤ a + b)
      go true lt ge = let h = up_order (le_of_lt (lt tt)) in (true, b - a, less true, omega arith, omega arith)
      go false lt ge = let h = down_order (ge tt) in (false, a - b, more false, omega arith, omega arith)
  sums true false = go (ltb A B) (ltb B A) (ltb→lt A B) (nltb→le A B) (nltb→le B A)
    where
      go : (q o : Bool) → (T q → A < B) → (T (not q) → B ≤ A) → (T (not o) → A ≤ B)
          → (r : Bool) × (n : ℕ) × (cond q (round f false (B - A) c) (round f o (A - B) c) ≡ round f r n G)
          × (above r n + (a + 0) ≡ under r n + (0 + b)) × (n ≤ a + b)
      go true o lt ge le = let h = up_order (le_of_lt (lt tt)) in (false, b - a, less false, omega arith, omega arith)
      go false true lt ge le = let h = down_order (ge tt) in (true, a - b, more true, omega arith, omega arith)
      go false false lt ge le =
          let h = down_order (ge tt) in
          let i = up_order (le tt) in
          (false, a - b, more false, omega arith, omega arith)

pub add_is : (f : Format) (x y : Float) (s t : Bool) (a b g : ℕ) → HasValue x s a (2 ^ g) → HasValue y t b (2 ^ g) → Sum f x y s t a b g
unfolding add
add_is f (fin p m e) (fin q n d) s t a b g v w =
    let A = m * up e * down d in
    let B = n * up d * down e in
    let c = down e * down d in
    let one : A * 2 ^ g ≡ a * c = rw (mul_right_comm (m * up e) (down d) (2 ^ g), v.1) (mul_assoc a (down e) (down d)) in
    let two : B * 2 ^ g ≡ b * c = rw (mul_right_comm (n * up d) (down e) (2 ^ g), w.1) (rw (mul_comm (down e) (down d)) (mul_assoc b (down d) (down e))) in
    let (r, k, is, exact, within) = sums f A B a b c (2 ^ g) (mul-pos (down_pos e) (down_pos d)) (pow_pos g) one two s t in
    record { sign = r; size = k; is = rw (v.0, w.0) is; exact = exact; within = within }
add_is f lib.Ieee.nan y s t a b g v w = elim v [ ]
add_is f (lib.Ieee.inf _) y s t a b g v w = elim v [ ]
add_is f (fin p m e) lib.Ieee.nan s t a b g v w = elim w [ ]
add_is f (fin p m e) (lib.Ieee.inf _) s t a b g v w = elim w [ ]

-- ---- rounded
-- a number with its sign: x is R / 2 ^ g, and E off n with the sign s
pub product-near : (x y : Float) (s t : Bool) (a b g k l : ℕ) → HasValue x s a (2 ^ g) → HasValue y t b (2 ^ k)
    → g + k + l ≡ 1074 → a * b + a * b < 2 ^ (1024 + (g + k)) → Rounded (mul binary64 x y) (unlike s t) (g + k) (a * b)
product-near x y s t a b g k l v w e room =
    rw (mul_is binary64 x y s t a b g k v w) (round_over (unlike s t) (g + k) l (a * b) e room)

pub record Near (x : Float) (g : ℕ) (u o most : ℕ) : Type 0 where
  pub sign : Bool
  pub parts : ℕ
  pub value : HasValue x sign parts (2 ^ g)
  pub off : ℕ
  pub high : above sign parts + u ≤ under sign parts + o + off
  pub low : under sign parts + o ≤ above sign parts + u + off
  pub close : off * 2 ^ 53 ≤ most

signed-off : (r : Bool) (R n u o most : ℕ) → apart R n * 2 ^ 53 ≤ n → n ≤ most → above r n + u ≡ under r n + o
    → (above r R + u ≤ under r R + o + apart R n) × (under r R + o ≤ above r R + u + apart R n) × (apart R n * 2 ^ 53 ≤ most)
signed-off false R n u o most h w e = (omega arith, omega arith, omega arith)
signed-off true R n u o most h w e = (omega arith, omega arith, omega arith)

pub sum_near : (x y : Float) (s t : Bool) (a b g l : ℕ) → HasValue x s a (2 ^ g) → HasValue y t b (2 ^ g)
    → g + l ≡ 1074 → a + b + (a + b) < 2 ^ (1024 + g) → Near (add binary64 x y) g (under s a + under t b) (above s a + above t b) (a + b)
sum_near x y s t a b g l v w e room =
    let m = add_is binary64 x y s t a b g v w in
    let i = m.within in
    let n = m.size in
    let twice : n + n ≤ a + b + (a + b) = omega arith in
    let fine : n + n < 2 ^ (1024 + g) = lt_of_le_of_lt twice room in
    let c = round_over m.sign g l n e fine in
    let (p, q, z) = signed-off m.sign c.parts n (under s a + under t b) (above s a + above t b) (a + b) c.close i m.exact in
    record { sign = m.sign; parts = c.parts; value = rw m.is c.value; off = apart c.parts n; high = p; low = q; close = z }
