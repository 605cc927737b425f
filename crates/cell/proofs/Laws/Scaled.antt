-- The product of a double's digits and a power of five, over a power of two, as the code works it out: in a lower part of 16 bits and an
-- upper part.
-- Assumes nothing.
use mathlib.Core.Path.{◌≡◌, sym, ap, ◌∙◌}
use Prim.Native.Nat.{ℕ, ◌+◌, ◌-◌, ◌*◌, ◌/◌, ◌%◌, ◌^◌, ◌≤◌, ◌<◌}
use native.Mathlib.Nat.{mul_right_comm, add-mul, div-add-mod', mod-lt, mul-le-mul, le_of_lt, div-le_self}
use native.Mathlib.Numerals.{add-one}
use native.Mathlib.Omega.{arith}
use lib.Pow.{pow-add, pow_pos, pow_mono}
use lib.Ieee.Nearest.{closest}
use Rattle.cell.proofs.Laws.Closest.{limbs_below, limbs_above, limbs_more, limbs_tie}

abbrev pub low : ℕ → ℕ → ℕ
low m f = m % 65536 * f

abbrev pub high : ℕ → ℕ → ℕ
high m f = m / 65536 * f + low m f / 65536

product : (m f : ℕ) → high m f * 65536 + low m f % 65536 ≡ m * f
product m f =
    let x = ap (λ (z : ℕ). z * f) (div-add-mod' m 65536) in
    let y = add-mul (m / 65536 * 65536) (m % 65536) f in
    let z = mul_right_comm (m / 65536) 65536 f in
    omega arith

module _ (m f : ℕ) (M : m < 2 ^ 53) (F : f < 2 ^ 21) where
  pub low_small : low m f < 2 ^ 37
  low_small = omega (arith, mul-le-mul {n₁ = m % 65536} {m₁ = f} {n₂ = 65535} {m₂ = 2 ^ 21} (omega arith) (le_of_lt F))

  pub part_small : m / 65536 * f < 2 ^ 58
  part_small = omega (arith, mul-le-mul {n₁ = m / 65536} {m₁ = f} {n₂ = 2 ^ 37 - 1} {m₂ = 2 ^ 21} (omega arith) (le_of_lt F))

  pub quotient_small : (u : ℕ) → high m f / u < 2 ^ 59
  quotient_small u = omega (arith, div-le_self (high m f) u, low_small, part_small)

pub half-small : (j half : ℕ) → half ≡ 2 ^ j → j < 63 → (0 < half) × (half ≤ 2 ^ 62)
half-small j half e h = rw e (pow_pos j, pow_mono {i = j} {j = 62} (omega arith))

module _ (m f j half : ℕ) (e : half ≡ 2 ^ (j - 17)) (J : 17 ≤ j) where
  unit : half * 2 * 65536 ≡ 2 ^ j
  unit =
      let back : j - 17 + 17 ≡ j = omega arith in
      let x = pow-add 2 (j - 17) 17 in
      let y : 2 ^ (j - 17 + 17) ≡ 2 ^ j = ap (λ (z : ℕ). 2 ^ z) back in
      omega arith

  some : 0 < half
  some = rw e (pow_pos (j - 17))

  few : low m f % 65536 < 65536
  few = mod-lt (low m f) (omega arith)

  pub scaled-below : high m f % (half * 2) < half → high m f / (half * 2) ≡ closest (m * f) (2 ^ j)
  scaled-below h = rw (← product m f, ← unit) (sym (limbs_below (high m f) (low m f % 65536) 65536 half few some h))

  pub scaled-above : half < high m f % (half * 2) → high m f / (half * 2) + 1 ≡ closest (m * f) (2 ^ j)
  scaled-above h = add-one (high m f / (half * 2)) ∙ rw (← product m f, ← unit) (sym (limbs_above (high m f) (low m f % 65536) 65536 half few some h))

  pub scaled-more : half ≤ high m f % (half * 2) → high m f % (half * 2) ≤ half → (low m f % 65536 ≡ 0 → ⊥)
      → high m f / (half * 2) + 1 ≡ closest (m * f) (2 ^ j)
  scaled-more g h n =
      add-one (high m f / (half * 2))
      ∙ rw (← product m f, ← unit) (sym (limbs_more (high m f) (low m f % 65536) 65536 half few some (omega arith) (omega arith)))

  pub scaled-tie : half ≤ high m f % (half * 2) → high m f % (half * 2) ≤ half → low m f % 65536 ≡ 0
      → high m f / (half * 2) + high m f / (half * 2) % 2 ≡ closest (m * f) (2 ^ j)
  scaled-tie g h n = rw (← product m f, ← unit) (sym (limbs_tie (high m f) (low m f % 65536) 65536 half few some (omega arith) n))
