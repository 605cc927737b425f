-- A whole number over 2 ^ g, rounded, is a whole number over 2 ^ g, off by 1 in 2 ^ 53 at most: nothing is lost below, for g up to 1074.
-- Assumes nothing.
use mathlib.Core.Path.{◌≡◌, refl, sym, ap, ◌∙◌}
use Prim.Native.Nat.{ℕ, suc, ◌+◌, ◌-◌, ◌*◌, ◌/◌, ◌^◌, ◌≤◌, ◌<◌}
use native.Mathlib.Nat.{le_trans, le_of_eq, lt_of_le_of_lt, mul_assoc, mul_comm, mul-pos, one-mul, zero-mul, pow-succ', mul-le-mul_right, mul-div_cancel}
use native.Mathlib.Omega.{arith}
use mathlib.Core.Bool.{Bool, true, false, not}
use lib.Dec.{T, leb, leb→le, nleb→lt}
use lib.Pow.{pow-add, pow_pos, shl_lt}
use lib.Ieee.{Float, Format, binary64, prec, low, size, round}
use lib.Ieee.Exact.{HasValue, units_val}
use lib.Ieee.Fits.{round_is}
use lib.Ieee.Digits.{size_reaches}
use lib.Ieee.Nearest.{closest, closest_same}
use lib.Ieee.Order.{drop, kept}
use lib.Ieee.Scale.{grid, overflow}
use Rattle.real.specs.Near.{apart}
use Rattle.real.proofs.Laws.Apart.{apart-over}
use Rattle.real.proofs.Laws.Halves.{closest_half}
use Rattle.real.proofs.Laws.Value.{value_same}

-- a multiple of the unit rounds to itself
closest_exact : (q u : ℕ) → 0 < u → closest (q * u) u ≡ q
closest_exact q u U =
    let c = closest (q * u) u in
    let near = apart-over u c q 2 1 U (rw (one-mul u) (closest_half (q * u) u U)) in
    omega arith

closest_of : (w q u : ℕ) → 0 < u → q * u ≡ w → closest w u ≡ q
closest_of w q u U e = rw e at (closest_exact q u U)

-- what is kept of w units: a multiple of 2 ^ l, if w is
module _ (h l n : ℕ) where
  abbrev w : ℕ
  w = n * 2 ^ l

  abbrev k : ℕ
  k = size w - suc h

  pub record Whole : Type 0 where
    pub parts : ℕ
    pub whole : parts * 2 ^ l ≡ closest w (2 ^ k) * 2 ^ k
    pub close : apart parts n * 2 ^ suc h ≤ n

  few : k ≤ l → Whole
  few i =
      let back : l - k + k ≡ l = omega arith in
      let split : n * 2 ^ (l - k) * 2 ^ k ≡ w = rw (mul_assoc n (2 ^ (l - k)) (2 ^ k), ← pow-add 2 (l - k) k, back) refl in
      let same : closest w (2 ^ k) ≡ n * 2 ^ (l - k) = closest_of w (n * 2 ^ (l - k)) (2 ^ k) (pow_pos k) split in
      let none : apart n n ≡ 0 = omega arith in
      let still : apart n n * 2 ^ suc h ≤ n = rw (none, zero-mul (2 ^ suc h)) (omega arith) in
      record { parts = n; whole = rw (same, split) refl; close = still }

  many : l < k → Whole
  many i =
      let q = closest w (2 ^ k) in
      let back : k - l + l ≡ k = omega arith in
      let split : q * 2 ^ (k - l) * 2 ^ l ≡ q * 2 ^ k = rw (mul_assoc q (2 ^ (k - l)) (2 ^ l), ← pow-add 2 (k - l) l, back) refl in
      let reach : 2 ^ (h + k) ≤ w = size_reaches w (h + k) (omega arith) in
      let half = mul-le-mul_right (2 ^ h) (closest_half w (2 ^ k) (pow_pos k)) in
      let held : 2 ^ k * 2 ^ h ≡ 2 ^ (h + k) = rw (pow-add 2 h k) (mul_comm (2 ^ k) (2 ^ h)) in
      let near : apart (q * 2 ^ k) w * 2 ^ suc h ≤ w =
      rw (pow-succ' 2 h, ← mul_assoc (apart (q * 2 ^ k) w) 2 (2 ^ h)) (le_trans half (le_trans (le_of_eq held) reach)) in
      record {
        parts = q * 2 ^ (k - l);
        whole = split;
        close = apart-over (2 ^ l) (q * 2 ^ (k - l)) n (2 ^ suc h) n (pow_pos l) (rw split near);
      }

  pub whole-kept : Whole
  whole-kept = go (leb k l) (leb→le k l) (nleb→lt k l)
    where
      go : (b : Bool) → (T b → k ≤ l) → (T (not b) → l < k) → Whole
      go true le gt = few (le tt)
      go false le gt = many (gt tt)

-- the units of a fraction n / 2 ^ g
module _ (h g l n : ℕ) where
  scaled : n * 2 ^ (g + l) ≡ n * 2 ^ l * 2 ^ g
  scaled = rw (pow-add 2 g l) (simp (mul_assoc, mul_comm))

  units : n * 2 ^ (g + l) / 2 ^ g ≡ n * 2 ^ l
  units = rw scaled (mul-div_cancel (n * 2 ^ l) (pow_pos g))

  pub kept-units : kept (suc h) (n * 2 ^ (g + l)) (2 ^ g) * 2 ^ drop (suc h) (n * 2 ^ (g + l)) (2 ^ g)
      ≡ closest (n * 2 ^ l) (2 ^ (size (n * 2 ^ l) - suc h)) * 2 ^ (size (n * 2 ^ l) - suc h)
  kept-units =
      let k = size (n * 2 ^ l) - suc h in
      ap (λ (x : ℕ). closest (n * 2 ^ (g + l)) (2 ^ g * 2 ^ (size x - suc h)) * 2 ^ (size x - suc h)) units
      ∙ ap (λ (x : ℕ). x * 2 ^ k)
      (closest_same (n * 2 ^ (g + l)) (2 ^ g * 2 ^ k) (n * 2 ^ l) (2 ^ k) (mul-pos (pow_pos g) (pow_pos k)) (pow_pos k)
      (rw scaled (mul_assoc (n * 2 ^ l) (2 ^ g) (2 ^ k))))

round_value : (f : Format) (s : Bool) (m d : ℕ) → grid f m d < overflow f → HasValue (round f s m d) s (grid f m d) (2 ^ low f)
round_value f s m d h =
    let n = m * 2 ^ low f in
    rw (round_is f s m d) (units_val f s (kept (prec f) n d) (drop (prec f) n d) h)

-- n / 2 ^ g rounded
pub record Rounded (x : Float) (s : Bool) (g n : ℕ) : Type 0 where
  pub parts : ℕ
  pub value : HasValue x s parts (2 ^ g)
  pub close : apart parts n * 2 ^ 53 ≤ n

twice : (R n : ℕ) → apart R n * 2 ^ 53 ≤ n → R ≤ n + n
twice R n h = omega arith

under_all : (R l g e : ℕ) → R < 2 ^ (e + g) → R * 2 ^ l < 2 ^ (e + g + l)
under_all R l g e h = shl_lt (e + g) l h

pub round_over : (s : Bool) (g l n : ℕ) → g + l ≡ 1074 → n + n < 2 ^ (1024 + g) → Rounded (round binary64 s n (2 ^ g)) s g n
round_over s g l n e room =
    let c = whole-kept 52 l n in
    let same : c.parts * 2 ^ l ≡ grid binary64 n (2 ^ g) = c.whole ∙ sym (rw e at (kept-units 52 g l n)) in
    let size : c.parts < 2 ^ (1024 + g) = lt_of_le_of_lt (twice c.parts n c.close) room in
    let top : 1024 + g + l ≡ 2098 = omega arith in
    let fine : grid binary64 n (2 ^ g) < overflow binary64 = rw (same, top) at (under_all c.parts l g 1024 size) in
    let moved : c.parts * 2 ^ 1074 ≡ grid binary64 n (2 ^ g) * 2 ^ g =
    rw (← same, mul_assoc c.parts (2 ^ l) (2 ^ g), mul_comm (2 ^ l) (2 ^ g), ← pow-add 2 g l, e) refl in
    record {
      parts = c.parts;
      value = value_same (round binary64 s n (2 ^ g)) s (grid binary64 n (2 ^ g)) (2 ^ 1074) c.parts (2 ^ g) (pow_pos 1074) moved
          (round_value binary64 s n (2 ^ g) fine);
      close = c.close;
    }
