-- A charge and MTRIX's `1` read back.
-- Assumes nothing.
use mathlib.Core.Path.{◌≡◌, refl, ◌∙◌}
use Prim.Native.Nat.{ℕ, zero, suc, ◌+◌, ◌-◌, ◌≤◌, ◌<◌}
use native.Mathlib.Omega.{arith}
use borrow.Author.Tests.{ne_eqb, lt-ltb}
use mathlib.Core.Bool.{Bool, true, false, cond}
use mathlib.Core.List.{List, [], ◌∷◌, ◌++◌}
use lib.ListN.{get_or, length-append}
use lib.Dec.{eqb}
use lib.IntN.{ℤ, pos, negsuc}
use Rattle.page.specs.Numerals.{decimal_before, decimal}
use Rattle.line.specs.Columns.{part_of}
use Rattle.line.specs.declared.columns.Columns.{Columns}
use Rattle.number.specs.Whole.{with_sign}
use Rattle.number.proofs.Laws.Digits.{digit_yes}
use Rattle.field.specs.Charge.{both_blank, charged, charge_of, charge_faults_of, charge_at, charge_faults}
use Rattle.cell.specs.Cell.{fitting, texted}
use Rattle.cell.specs.Text.{blanks, right}
use Rattle.cell.specs.Words.{charge_text, flag_text}
use Rattle.sheet.specs.Ink.{charge, given}
use Rattle.sheet.specs.Sheet.{◌holds◌}
use Rattle.roundtrip.proofs.Laws.Stand.{Held}
use Rattle.roundtrip.proofs.Laws.Small.{fitting-le, decimal-few}
use Rattle.roundtrip.proofs.Laws.Texts.{one_byte}

-- ---- a charge
-- what two columns say
abbrev Says : List ℕ → ℕ → ℤ → Type 0
Says t start z =
    (cond (charged t) (charge_of (get_or t 0 0) (get_or t 1 0)) (pos 0) ≡ z)
    × (cond (charged t) (charge_faults_of (get_or t 0 0) (get_or t 1 0) start) [] ≡ [])

no-charge : (start : ℕ) → Says (texted 2 []) start (pos 0)
unfolding texted fitting right blanks charged both_blank
no-charge start = (refl, refl)

one-digit : (n : ℕ) → n < 10 → decimal n ≡ (48 + n) ∷ []
unfolding decimal decimal_before
one-digit n h = rw (lt-ltb n 10 h) refl

module _ (d s start : ℕ) (low : 48 ≤ d) (high : d ≤ 57) where
  dark : eqb d 32 ≡ false
  dark = ne_eqb d 32 (λ e. omega arith)

  plus-says : Says (texted 2 (d ∷ 43 ∷ [])) start (with_sign false (d - 48))
  unfolding texted fitting right blanks charged both_blank charge_of charge_faults_of
  plus-says = (rw (dark, digit_yes d low high) refl, rw (dark, digit_yes d low high) refl)

  minus-says : Says (texted 2 (d ∷ 45 ∷ [])) start (with_sign true (d - 48))
  unfolding texted fitting right blanks charged both_blank charge_of charge_faults_of
  minus-says = (rw (dark, digit_yes d low high) refl, rw (dark, digit_yes d low high) refl)

charge-few : (n sign : ℕ) → fitting 2 (decimal n ++ sign ∷ []) ≡ true → n < 10
charge-few n sign e =
    let long = fitting-le 2 (decimal n ++ sign ∷ []) e in
    omega (arith, decimal-few n 1 (omega (arith, length-append (decimal n) (sign ∷ []))) (omega arith))

charge-said : (z : ℤ) (start : ℕ) → fitting 2 (charge_text z) ≡ true → Says (texted 2 (charge_text z)) start z
unfolding charge_text
charge-said (pos zero) start e = no-charge start
charge-said (pos (suc n)) start e =
    let few = charge-few (suc n) 43 e in
    let same : 48 + suc n - 48 ≡ suc n = omega arith in
    rw (one-digit (suc n) few) (rw same at (plus-says (48 + suc n) 43 start (omega arith) (omega arith)))
charge-said (negsuc n) start e =
    let few = charge-few (suc n) 45 e in
    let same : 48 + suc n - 48 ≡ suc n = omega arith in
    rw (one-digit (suc n) few) (rw same at (minus-says (48 + suc n) 45 start (omega arith) (omega arith)))

-- ---- `1` or a blank
flagged : (b : Bool) → (x : ℕ) × ((texted 1 (flag_text b) ≡ x ∷ []) × (eqb x 49 ≡ b))
unfolding texted fitting right blanks
flagged true = (49, (refl, refl))
flagged false = (32, (refl, refl))

-- ---- in their columns
module _ {l : List ℕ} {at : Columns} where
  pub charge_in : {z : ℤ} → Held l (at holds charge z) → at.end - at.start ≡ 2 → (charge_at l at ≡ z) × (charge_faults l at ≡ [])
  unfolding charge_at charge_faults
  charge_in {z} h two = rw (h.part, two) (charge-said z at.start (rw two at h.fits))

  pub given_in : {b : Bool} → Held l (at holds given b) → at.end - at.start ≡ 1 → eqb (get_or l at.start 0) 49 ≡ b
  given_in {b} h one =
      let (x, (is, tells)) = flagged b in
      let byte : part_of l at ≡ x ∷ [] = h.part ∙ rw one is in
      rw (one_byte l at h.reach one x byte) tells
