-- A number that fits its columns reads back, without a fault.
--     unsigned_in, signed_in_lem     as itself
--     real_in                    as the double of the decimal that was written, with its places
--     factor_in                  as that of the integer that was written
--     rest_in                    a number read up to the line's end, with blanks before and behind it
-- Assumes nothing.
use mathlib.Core.Path.{◌≡◌, refl, ap, ◌∙◌}
use Prim.Native.Nat.{ℕ, ◌-◌, ◌≤◌}
use native.Mathlib.Omega.{arith}
use borrow.Author.Tests.{le-ltb, le-leb}
use mathlib.Core.Bool.{Bool, true}
use mathlib.Core.List.{List, [], ◌++◌}
use lib.ListN.{length, drop}
use lib.IntN.{ℤ}
use lib.Ieee.{Float}
use Rattle.std.specs.Prelude.{Option, Some, None, unwrap_or}
use Rattle.page.specs.Numerals.{decimal, signed_decimal}
use Rattle.line.specs.Columns.{part_of, rest_of}
use Rattle.line.specs.declared.columns.Columns.{Columns}
use Rattle.number.specs.Trim.{trimmed}
use Rattle.number.specs.Whole.{unsigned_of, signed_of, with_sign}
use Rattle.real.specs.declared.Real.{Real as RealRead}
use Rattle.real.specs.Real.{real as readReal, real_of, ten_thousandths_of}
use Rattle.real.specs.Wide.{real_with}
use Rattle.real.proofs.Laws.WideReal.{on-is}
use Rattle.field.specs.Number.{zero_real, unsigned_at, unsigned_faults, signed_at, signed_faults, real_at, real_faults, places_at, factor_at, factor_faults, unsigned_from, unsigned_from_faults, number_faults}
use Rattle.cell.specs.Cell.{fitting, texted, real_fits, real_bytes, factor_fits, factor_bytes}
use Rattle.cell.specs.Places.{places_of}
use Rattle.cell.specs.Text.{blanks}
use Rattle.cell.specs.declared.places.Rounded.{Rounded}
use Rattle.cell.proofs.Laws.Back.{unsigned_back, signed_back}
use Rattle.cell.proofs.Laws.Cell.{cell-again}
use Rattle.cell.proofs.Laws.Text.{blanks-out}
use Rattle.cell.proofs.Laws.Width.{factor-width}
use Rattle.sheet.specs.Ink.{unsigned, signed, real, factor}
use Rattle.sheet.specs.Sheet.{◌holds◌}
use Rattle.roundtrip.specs.Returned.{double_back, factor_back}
use Rattle.roundtrip.proofs.Laws.Stand.{Held}
use Rattle.roundtrip.proofs.Laws.Trimmed.{tail-out}
use Rattle.roundtrip.proofs.Laws.Small.{decimal-small, signed-small}

-- ---- what is written says the number
unsigned-said : (w n : ℕ) → fitting w (decimal n) ≡ true → w ≤ 18 → unsigned_of (texted w (decimal n)) ≡ Some n
unfolding texted
unsigned-said w n e few = let small = decimal-small w n e few in rw e (unsigned_back w n (omega arith))

signed-said : (w : ℕ) (z : ℤ) → fitting w (signed_decimal z) ≡ true → w ≤ 18 → signed_of (texted w (signed_decimal z)) ≡ Some z
unfolding texted
signed-said w z e few = rw e (signed_back w z (signed-small w z e few))

real-said : (w q : ℕ) (x : Float) → real_fits w q (places_of q x) ≡ true → w ≤ 10
    → real_of (real_bytes w q (places_of q x)) ≡ Some (readReal (double_back q (places_of q x)) q)
real-said w q x e few = go (places_of q x) refl e
  where
    go : (p : Option Rounded) → places_of q x ≡ p → real_fits w q p ≡ true → real_of (real_bytes w q (places_of q x)) ≡ Some (readReal (double_back q (places_of q x)) q)
    go (Some r) is e = rw is (rw is at (cell-again q w x r.minus r.digits is e few).0)
    go None is e = cc

factor-said : (w : ℕ) (p : Option Rounded) → factor_fits w p ≡ true → w ≤ 7 → ten_thousandths_of (factor_bytes w p) ≡ Some (factor_back p)
unfolding ten_thousandths_of
factor-said w (Some r) e few =
    let long = factor-width w (Some r) in
    rw (le-leb (length (factor_bytes w (Some r))) 7 (omega arith), signed-said w (with_sign r.minus r.digits) e (omega arith)) refl
factor-said w None e few = cc

-- ---- in its columns
module _ {l : List ℕ} {at : Columns} where
  pub unsigned_in : {n : ℕ} → Held l (at holds unsigned n) → at.end - at.start ≤ 18 → (unsigned_at l at ≡ n) × (unsigned_faults l at ≡ [])
  unfolding unsigned_at number_faults
  unsigned_in {n} h few =
      let said : unsigned_of (part_of l at) ≡ Some n = ap unsigned_of h.part ∙ unsigned-said (at.end - at.start) n h.fits few in
      (rw said refl, rw (le-ltb (length l) at.end h.reach, said) refl)

  pub signed_in_lem : {z : ℤ} → Held l (at holds signed z) → at.end - at.start ≤ 18 → (signed_at l at ≡ z) × (signed_faults l at ≡ [])
  unfolding signed_at number_faults
  signed_in_lem {z} h few =
      let said : signed_of (part_of l at) ≡ Some z = ap signed_of h.part ∙ signed-said (at.end - at.start) z h.fits few in
      (rw said refl, rw (le-ltb (length l) at.end h.reach, said) refl)

  -- a written real is a plain decimal, so it is the same with exponents and without
  pub real_in : (on : Bool) {q : ℕ} {x : Float} (default : Float) → Held l (at holds real q x) → at.end - at.start ≤ 10
      → (real_at on l at default ≡ double_back q (places_of q x)) × (real_faults on l at ≡ []) × (places_at on l at ≡ q)
  unfolding real_at places_at number_faults
  real_in on {q} {x} default h few =
      let plain : real_of (part_of l at) ≡ Some (readReal (double_back q (places_of q x)) q) =
      ap real_of h.part ∙ real-said (at.end - at.start) q x h.fits few in
      let said : real_with on (part_of l at) ≡ Some (readReal (double_back q (places_of q x)) q) = on-is (part_of l at) plain on in (
        ap (λ (r : Option RealRead). (unwrap_or r (readReal default 0)).value) said,
        rw (le-ltb (length l) at.end h.reach, said) refl,
        ap (λ (r : Option RealRead). (unwrap_or r (readReal zero_real 0)).places) said,
      )

  pub factor_in : {x : Float} → Held l (at holds factor x) → at.end - at.start ≤ 7
      → (factor_at l at ≡ factor_back (places_of 4 x)) × (factor_faults l at ≡ [])
  unfolding factor_at number_faults
  factor_in {x} h few =
      let said : ten_thousandths_of (part_of l at) ≡ Some (factor_back (places_of 4 x)) =
      ap ten_thousandths_of h.part ∙ factor-said (at.end - at.start) (places_of 4 x) h.fits few in
      (rw said refl, rw (le-ltb (length l) at.end h.reach, said) refl)

-- ---- up to the line's end
pub rest_in : (l : List ℕ) (start w n before behind : ℕ) → drop start l ≡ blanks before ++ (texted w (decimal n) ++ blanks behind)
    → fitting w (decimal n) ≡ true → w ≤ 18 → (unsigned_from l start ≡ n) × (unsigned_from_faults l start ≡ [])
unfolding unsigned_from unsigned_from_faults rest_of unsigned_of
rest_in l start w n before behind e fit few =
    let t = texted w (decimal n) in
    let same : trimmed (drop start l) ≡ trimmed t = ap trimmed e ∙ blanks-out before (t ++ blanks behind) ∙ tail-out t behind in
    let said = unsigned-said w n fit few in
    (rw (same, said) refl, rw (same, said) refl)
