-- A whole number that is written in its columns reads back.
--     unsigned_back, signed_back     as the same number
--     factor-back                    one of ANISOU's six in four places, as the same integer
-- Assumes nothing.
use mathlib.Core.Path.{◌≡◌, refl, sym, ap, ◌∙◌}
use Prim.Native.Nat.{ℕ, suc, ◌-◌, ◌*◌, ◌^◌, ◌<◌}
use native.Mathlib.Nat.{le_refl, mul-one}
use native.Mathlib.Omega.{arith}
use mathlib.Core.Bool.{true, false}
use mathlib.Core.List.{[], ◌∷◌}
use lib.IntN.{ℤ, pos, negsuc, nat_abs}
use Rattle.std.specs.Prelude.{Some}
use Rattle.page.specs.Numerals.{decimal, signed_decimal}
use Rattle.page.proofs.Laws.Decimal.{decimal-length, decimal-says, between}
use Rattle.number.specs.Whole.{value_of, unsigned_of, signed_of}
use Rattle.real.specs.Real.{ten_thousandth}
use Rattle.real.specs.Sign.{below}
use Rattle.number.specs.Grammar.{Plus, Sign}
use Rattle.number.proofs.Laws.Grammar.{unsigned-read, signed-read}
use Rattle.real.proofs.Laws.Quotient.{integer-near}
use Rattle.cell.specs.Text.{right}
use Rattle.cell.specs.Places.{rounded, rounded_to}
use Rattle.cell.proofs.Laws.Text.{right-trimmed, dark-trimmed, between_more, all_digits, same-said}
use Rattle.cell.proofs.Laws.Places.{near-places}

-- ---- whole numbers
pub unsigned_back : (w n : ℕ) → n < 2 ^ 64 → unsigned_of (right w (decimal n)) ≡ Some n
unsigned_back w n small =
    let t = decimal n in
    let b = between n small in
    unsigned-read (record {
      sign = [];
      digs = t;
      plus = Plus.none;
      text = right-trimmed w t ∙ dark-trimmed t (between_more 45 57 t (omega arith) (omega arith) b);
      some = (decimal-length n small).0;
      each = all_digits t b;
      value = sym (sym (same-said 0 t) ∙ decimal-says n small);
      limit = small;
    })

said : (n : ℕ) → n < 2 ^ 64 → value_of (decimal n) ≡ n
said n small = sym (same-said 0 (decimal n)) ∙ decimal-says n small

pub signed_back : (w : ℕ) (z : ℤ) → nat_abs z < 2 ^ 63 → signed_of (right w (signed_decimal z)) ≡ Some z
unfolding signed_decimal
signed_back w (pos n) small =
    let t = decimal n in
    let b = between n (omega arith) in
    let v = said n (omega arith) in
    signed-read (record {
      is_minus = false;
      sign = [];
      digs = t;
      signed = Sign.unsigned;
      text = right-trimmed w t ∙ dark-trimmed t (between_more 45 57 t (omega arith) (omega arith) b);
      some = (decimal-length n (omega arith)).0;
      each = all_digits t b;
      value = ap pos (sym v);
      limit = omega arith;
    })
signed_back w (negsuc n) small =
    let t = decimal (suc n) in
    let b = between (suc n) (omega arith) in
    let v = said (suc n) (omega arith) in
    signed-read (record {
      is_minus = true;
      sign = 45 ∷ [];
      digs = t;
      signed = Sign.minus;
      text =
          right-trimmed w (45 ∷ t)
          ∙ dark-trimmed (45 ∷ t) ((omega arith, omega arith), between_more 45 57 t (omega arith) (omega arith) b);
      some = (decimal-length (suc n) (omega arith)).0;
      each = all_digits t b;
      value = rw v refl;
      limit = omega arith;
    })

-- ---- ANISOU's six: an integer over 10000.0 is that integer in four places
pub factor-back : (z : ℤ) → nat_abs z < 10 ^ 10 → rounded_to 4 (ten_thousandth z) ≡ Some (rounded (below z) (nat_abs z))
factor-back z few =
    let none : nat_abs z * 10 ^ (4 - 4) ≡ nat_abs z = mul-one (nat_abs z) in
    rw none at (near-places (below z) (nat_abs z) 4 4 (ten_thousandth z) (integer-near z few) (le_refl 4) (rw none few))
