-- What a field of a line holds is held: a double that is near a written number, and the default 0.0.
--     near-held                    a double near a number of up to ten digits, times a power of ten up to 10 ^ 22 or over one
--     real-held                    so every real that a text says, with an exponent or without
--     position_held, row-held      and the positions and rows of any line, read with faults or without
-- Assumes nothing.
use mathlib.Core.Path.{◌≡◌, refl}
use Prim.Native.Nat.{ℕ, zero, suc, ◌+◌, ◌*◌, ◌^◌, ◌≤◌, ◌<◌}
use native.Mathlib.Nat.{le_trans, le_of_eq, lt_of_lt_of_le, lt_of_le_of_lt, lt_of_not-le, not-le_of_lt, mul_assoc, mul_comm, mul-pos, suc-mul, zero-mul, mul-le-mul_right}
use native.Mathlib.Nat.{mul-lt-mul_of_pos_right, le-mul_of_pos_right, zero-lt-suc, pow-le-pow_right}
use native.Mathlib.Omega.{arith}
use mathlib.Core.Bool.{Bool, false}
use mathlib.Core.List.{List}
use lib.Dec.{lit≤, lit<}
use lib.Pow.{pow_pos, pow-add}
use lib.Ieee.{Float}
use Rattle.std.proofs.Common.{Option, Some, None, unwrap_or}
use Rattle.real.specs.Near.{NearOver, apart}
use Rattle.real.specs.Wide.{raised, lowered, real_with}
use Rattle.real.specs.Real.{real}
use Rattle.real.specs.declared.Real.{Real}
use Rattle.real.proofs.Laws.Quotient.{ten_pos}
use Rattle.real.proofs.Laws.WideReal.{with-is, said-finer}
use Rattle.line.specs.Columns.{part_of}
use Rattle.line.specs.declared.columns.Columns.{Columns}
use Rattle.field.specs.Number.{real_at, zero_real}
use Rattle.transformation.specs.Transformation.{transformation_of}
use Rattle.atom.specs.Atom.{position_of}
use Rattle.matrix.specs.Bound.{Held, HeldRow, HeldPosition}

-- with u = 10 ^ a 2 ^ 126: |w - m u| 2 ^ 53 ≤ m u < 2 ^ 53 u, so w < m u + u ≤ 10 ^ 10 u
within : (k d u : ℕ) → k * 2 ^ 53 ≤ d → d < u * 2 ^ 53 → k < u
within k d u near less = lt_of_not-le (λ (h : u ≤ k). not-le_of_lt (lt_of_le_of_lt near less) (mul-le-mul_right (2 ^ 53) h))

reaches : (w d u : ℕ) → apart w d < u → d + u ≤ 10 ^ 10 * u → w < 10 ^ 10 * u
reaches w d u less most = omega arith

under : (w d u : ℕ) → apart w d * 2 ^ 53 ≤ d → d < u * 2 ^ 53 → d + u ≤ 10 ^ 10 * u → w < 10 ^ 10 * u
under w d u near less most = reaches w d u (within (apart w d) d u near less) most

next-is : (m u : ℕ) → m * u + u ≡ suc m * u
next-is m u = omega (arith, suc-mul m u)

none : (w : ℕ) → apart w 0 * 2 ^ 53 ≤ 0 → w ≡ 0
none w h = omega arith

-- V ≤ V 10 ^ b < 10 ^ 10 10 ^ a 2 ^ 126 ≤ 10 ^ 32 2 ^ 126
some-small : (v m a b : ℕ) → m < 10 ^ 10 → a ≤ 22 → apart (v * 10 ^ b) (m * 10 ^ a * 2 ^ 126) * 2 ^ 53 ≤ m * 10 ^ a * 2 ^ 126 → v < 10 ^ 32 * 2 ^ 126
some-small v m a b few short near =
    let u = 10 ^ a * 2 ^ 126 in
    let some : 0 < u = mul-pos (ten_pos a) (pow_pos 126) in
    let less : m * u < u * 2 ^ 53 = rw (mul_comm u (2 ^ 53)) (mul-lt-mul_of_pos_right (lt_of_lt_of_le few (lit≤ tt)) some) in
    let next : m * u + u ≤ 10 ^ 10 * u = le_trans (le_of_eq (next-is m u)) (mul-le-mul_right u few) in
    let below : v * 10 ^ b < 10 ^ 10 * u = under (v * 10 ^ b) (m * u) u (rw (mul_assoc m (10 ^ a) (2 ^ 126)) at near) less next in
    let top : 10 + a ≤ 32 = omega arith in
    let tens : 10 ^ 10 * 10 ^ a ≤ 10 ^ 32 = rw (← pow-add 10 10 a) (pow-le-pow_right (zero-lt-suc 9) top) in
    let all : 10 ^ 10 * u ≤ 10 ^ 32 * 2 ^ 126 = rw (← mul_assoc (10 ^ 10) (10 ^ a) (2 ^ 126)) (mul-le-mul_right (2 ^ 126) tens) in
    lt_of_le_of_lt (le-mul_of_pos_right v (ten_pos b)) (lt_of_lt_of_le below all)

-- of 0 nothing is left, however high the power is
zero-small : (v a b : ℕ) → apart (v * 10 ^ b) (0 * 10 ^ a * 2 ^ 126) * 2 ^ 53 ≤ 0 * 10 ^ a * 2 ^ 126 → v < 10 ^ 32 * 2 ^ 126
zero-small v a b near =
    let flat = rw (zero-mul (10 ^ a), zero-mul (2 ^ 126)) at near in
    lt_of_le_of_lt (le_trans (le-mul_of_pos_right v (ten_pos b)) (le_of_eq (none (v * 10 ^ b) flat))) (lit< tt)

small : (v m a b : ℕ) → m < 10 ^ 10 → ((m ≡ 0 → ⊥) → a ≤ 22) → apart (v * 10 ^ b) (m * 10 ^ a * 2 ^ 126) * 2 ^ 53 ≤ m * 10 ^ a * 2 ^ 126
    → v < 10 ^ 32 * 2 ^ 126
small v zero a b few short near = zero-small v a b near
small v (suc m) a b few short near = some-small v (suc m) a b few (short (λ e. omega arith)) near

pub near-held : (s : Bool) (m a b : ℕ) (x : Float) → NearOver 126 s (m * 10 ^ a) b x → m < 10 ^ 10 → ((m ≡ 0 → ⊥) → a ≤ 22) → Held x
near-held s m a b x h few short =
    record { is_minus = s; parts = h.parts; value = h.value; small = small h.parts m a b few short h.close }

pub real-held : (on : Bool) (t : List ℕ) {x : Float} {p : ℕ} → real_with on t ≡ Some (real x p) → Held x
real-held on t {x} {p} e =
    let w = with-is on t e in
    near-held w.is_minus w.m (raised w.lower w.x p) (lowered w.lower w.x p) x (said-finer on w.near) w.few w.high

zero_held : Held zero_real
zero_held = record { is_minus = false; parts = 0; value = (refl, refl); small = lit< tt }

-- ---- of a line
module _ (on : Bool) (l : List ℕ) where
  field-held : (at : Columns) → Held (real_at on l at zero_real)
  unfolding real_at
  field-held at = go (real_with on (part_of l at)) refl
    where
      go : (r : Option Real) → real_with on (part_of l at) ≡ r → Held (unwrap_or r (real zero_real 0)).value
      go (Some r) e = real-held on (part_of l at) {x = r.value} {p = r.places} e
      go None e = zero_held

  pub position_held : HeldPosition (position_of on l)
  position_held = record { x = field-held _; y = field-held _; z = field-held _ }

  pub row-held : HeldRow (transformation_of on l)
  row-held = record { a = field-held _; b = field-held _; c = field-held _; d = field-held _ }
