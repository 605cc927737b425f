-- What the width of a text says of the number it gives.
--     unsigned-below, signed_below, decimal-below     w columns give a number below 10 ^ w, its sign and its point left out
--     signed-within                                   the same of a text of up to w columns
--     unsigned-fits, signed-fits                      a whole number is within 64 bits
--     plain-within                                    a plain decimal of up to w bytes says an M below 10 ^ w, and p is below w
--     decimal_limits                                  M is below 10 ^ 10, and p is at most 9
-- Assumes nothing.
use Prim.Native.Nat.{ℕ, zero, suc, ◌-◌, ◌^◌, ◌≤◌, ◌<◌}
use mathlib.Core.Path.{◌≡◌, refl, ap}
use mathlib.Core.Bool.{Bool, true, false}
use mathlib.Core.List.{List, ◌++◌}
use native.Mathlib.Nat.{le_refl}
use native.Mathlib.Omega.{arith}
use lib.ListN.{length, length-append}
use lib.IntN.{ℤ, nat_abs}
use lib.Signed.{mag}
use Rattle.std.specs.Prelude.{Some}
use Rattle.number.specs.Trim.{trimmed}
use Rattle.number.specs.Whole.{digits, value_of, most, with_sign, unsigned_of, signed_of}
use Rattle.number.specs.Decimal.{plain, decimal_of}
use Rattle.number.specs.Grammar.{Fraction, SaysPlain}
use Rattle.number.proofs.Laws.Trim.{trimmed-le}
use Rattle.number.proofs.Laws.Digits.{value-below}
use Rattle.number.proofs.Laws.Grammar.{unsigned_form, signed_form, decimal_form}

-- ---- whole numbers
digs-below : (t s d : List ℕ) (w : ℕ) → trimmed t ≡ s ++ d → digits d ≡ true → length t ≤ w → value_of d < 10 ^ w
digs-below t s d w e each l = value-below d w each (omega (arith, trimmed-le t, simp length-append at (ap length e)))

pub unsigned-below : (t : List ℕ) {n : ℕ} → unsigned_of t ≡ Some n → n < 10 ^ length t
unsigned-below t e =
    let h = unsigned_form t e in
    rw h.value (digs-below t h.sign h.digs (length t) h.text h.each (le_refl (length t)))

pub unsigned-fits : (t : List ℕ) {n : ℕ} → unsigned_of t ≡ Some n → n < 2 ^ 64
unsigned-fits t e = (unsigned_form t e).limit

sign-size : (s : Bool) (n : ℕ) → nat_abs (with_sign s n) ≡ n
sign-size false n = refl
sign-size true zero = refl
sign-size true (suc n) = refl

pub signed-within : (t : List ℕ) {z : ℤ} → signed_of t ≡ Some z → (w : ℕ) → length t ≤ w → nat_abs z < 10 ^ w
signed-within t e w l =
    let h = signed_form t e in
    rw (h.value, sign-size h.is_minus (value_of h.digs)) (digs-below t h.sign h.digs w h.text h.each l)

pub signed_below : (t : List ℕ) {z : ℤ} → signed_of t ≡ Some z → nat_abs z < 10 ^ length t
signed_below t e = signed-within t e (length t) (le_refl (length t))

sign_fits : (s : Bool) (n : ℕ) → n ≤ most s → mag (with_sign s n) < 2 ^ 63
sign_fits false n h = omega arith
sign_fits true zero h = omega arith
sign_fits true (suc n) h = omega arith

pub signed-fits : (t : List ℕ) {z : ℤ} → signed_of t ≡ Some z → mag z < 2 ^ 63
signed-fits t e = let h = signed_form t e in rw h.value (sign_fits h.is_minus (value_of h.digs) h.limit)

-- ---- plain decimals
fraction-le : {t u : List ℕ} → Fraction t u → length u ≤ length t - 1
fraction-le Fraction.whole = omega arith
fraction-le (Fraction.point u) = omega arith

pub plain-within : {t : List ℕ} {s : Bool} {m p : ℕ} → SaysPlain t s m p → (w : ℕ) → length t ≤ w → (m < 10 ^ w) × (p ≤ w - 1)
plain-within h w l =
    let n = simp length-append at (ap length h.text) in
    let d = h.front ++ h.behind in
    let f = fraction-le h.fraction in
    (rw h.value (value-below d w h.each (simp length-append (omega arith))), rw h.places (omega arith))

pub decimal-below : (t : List ℕ) {s : Bool} {m p : ℕ} → decimal_of t ≡ Some (plain s m p) → m < 10 ^ length t
decimal-below t e = (plain-within (decimal_form t e).plain (length t) (trimmed-le t)).0

pub decimal_limits : (t : List ℕ) {s : Bool} {m p : ℕ} → decimal_of t ≡ Some (plain s m p) → (m < 10 ^ 10) × (p ≤ 9)
decimal_limits t e = let h = decimal_form t e in plain-within h.plain 10 h.width
