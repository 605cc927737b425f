-- What a text says as R with the option for exponents (2026-10): "With M and p as in 01 and exponent x, the field is read when x - p lies from -22 to
-- 22, or M is 0; otherwise fault 2. The double is the nearest to the exact value, a tie to the even last bit. The places count of 2026-02 is p."
-- The exact value is M 10 ^ a over 10 ^ b, where a is x - p above zero and b is p - x above zero: one of them is 0.
use Rattle.std.specs.Prelude.{ℕ, ◌+◌, ◌-◌, ◌*◌, ◌^◌, ◌≤◌, ◌<◌, ◌≡◌, Bool, true, false, cond, ◌&&◌, ◌||◌, List, leb, eqb, Float, Option, Some, None, option_map}
use Rattle.std.specs.Float.{binary64}
use Rattle.std.specs.Float.Ieee.{round}
use Rattle.std.specs.Float.Ieee.Exact.{HasValue}
use Rattle.number.specs.Decimal.{decimal_of}
use Rattle.number.specs.Wide.{without_mark, wide_of}
use Rattle.number.specs.declared.wide.Wide.{Wide}
use Rattle.real.specs.Near.{apart}
use Rattle.real.specs.Real.{real, real_of}
use Rattle.real.specs.declared.Real.{Real}

-- x - p, above zero and below
abbrev pub raised : Bool → ℕ → ℕ → ℕ
raised false x p = x - p
raised true x p = 0

abbrev pub lowered : Bool → ℕ → ℕ → ℕ
lowered false x p = p - x
lowered true x p = p + x

-- the nearest double; `NearestDouble` says the same over whole numbers
unfoldable pub nearest_to : Bool → ℕ → ℕ → ℕ → Float
nearest_to s m a b = round binary64 s (m * 10 ^ a) (10 ^ b)

abbrev pub in_reach : ℕ → ℕ → ℕ → Bool
in_reach m a b = eqb m 0 || (leb a 22 && leb b 22)

-- the two powers of ten of a number with an exponent
abbrev pub raised_in : Wide → ℕ
raised_in w = raised w.lower w.exponent w.decimal.places

abbrev pub lowered_in : Wide → ℕ
lowered_in w = lowered w.lower w.exponent w.decimal.places

-- of a number with an exponent, what is read of it
abbrev pub within : Option Wide → Option Wide
within None = None
within (Some w) = cond (in_reach w.decimal.digits (raised_in w) (lowered_in w)) (Some w) None

abbrev pub doubled : Option Wide → Option Real
doubled None = None
doubled (Some w) = Some (real (nearest_to w.decimal.minus w.decimal.digits (raised_in w) (lowered_in w)) w.decimal.places)

abbrev pub wide_real : Option Wide → Option Real
wide_real w = doubled (within w)

-- its double, if that is in reach
abbrev pub wide_double : Wide → Option Float
wide_double w = option_map (λ (r : Real). r.value) (wide_real (Some w))

-- what a text says as R by the option
unfoldable pub real_with : Bool → List ℕ → Option Real
real_with false t = real_of t
real_with true t = wide_real (wide_of t)

-- what a text says that is read
abbrev pub said_with : Bool → List ℕ → Option Wide
said_with false t = without_mark (decimal_of t) None
said_with true t = within (wide_of t)

-- ---- demand 3
-- "over 2^126 in place of 2^82"
abbrev pub scale_with : Bool → ℕ
scale_with false = 82
scale_with true = 126

-- "Its whole-number form then has 10^(p-x) for 10^p where x is at most p; where x is more, it has M x 10^(x-p) for M on both sides and no 10^p; where
-- M is 0 it says that V is 0." V is over 2 ^ t
abbrev pub Low : ℕ → ℕ → ℕ → ℕ → Type 0
Low t v m k = apart (v * 10 ^ k) (m * 2 ^ t) * 2 ^ 53 ≤ m * 2 ^ t

abbrev pub High : ℕ → ℕ → ℕ → ℕ → Type 0
High t v m k = apart v (m * 10 ^ k * 2 ^ t) * 2 ^ 53 ≤ m * 10 ^ k * 2 ^ t

abbrev pub Close : ℕ → ℕ → ℕ → ℕ → Bool → ℕ → Type 0
Close t v m p true x = Low t v m (p + x) × (m ≡ 0 → v ≡ 0)
Close t v m p false x = (x ≤ p → Low t v m (p - x)) × (p < x → High t v m (x - p)) × (m ≡ 0 → v ≡ 0)

-- a double is so near a written number
pub record NearWritten (t : ℕ) (s : Bool) (m p : ℕ) (lower : Bool) (x : ℕ) (y : Float) : Type 0 where
  -- V
  pub parts : ℕ
  -- y is finite, has the sign s, and is V / 2 ^ t in size
  pub value : HasValue y s parts (2 ^ t)
  pub close : Close t parts m p lower x
