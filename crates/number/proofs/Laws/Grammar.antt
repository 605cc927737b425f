-- The readings and the grammars say the same: what is accepted has the grammar's form, and all that has it is accepted.
--     unsigned_form, unsigned-read     U: an optional plus and one or more digits, below 2^64
--     signed_form, signed-read         I: an optional sign and one or more digits, within 64 bits
--     decimal_form, decimal-read       R: an optional sign, digits, an optional point and digits, in at most ten bytes
--     plain_form, plain-read           the same of a text as it stands, of any length
--     sign_form, sign_read             an optional sign, and what stands behind it
--     no_sign                          digits don't begin with one
--     some_form, some_read             one or more digits
-- Assumes nothing.
use Prim.Native.Nat.{ℕ, ◌^◌, ◌<◌}
use mathlib.Core.Path.{◌≡◌, refl, sym, ap, ◌∙◌}
use mathlib.Core.Bool.{Bool, true, false, cond, ◌&&◌, ◌||◌}
use mathlib.Core.List.{List, [], ◌∷◌, ◌++◌, append-nil, append_assoc}
use native.Mathlib.Omega.{arith}
use borrow.Author.Tests.{lt-ltb, le-leb, ltb-true, leb-true, eqb-true, ne_eqb}
use lib.ListN.{length, drop}
use lib.Dec.{lit<, leb, ltb, eqb}
use lib.IntN.{ℤ}
use Rattle.std.specs.Prelude.{Some, None}
use Rattle.number.specs.Trim.{trimmed}
use Rattle.number.specs.Whole.{digit, digits, some_digits, value_of, begins, after_plus, after_sign, most, with_sign}
use Rattle.number.specs.Whole.{digits_of, unsigned_of, signed_digits, signed_of}
use Rattle.number.specs.Decimal.{plain, before_point, behind_point, without_point, plain_of, decimal_of}
use Rattle.number.specs.declared.decimal.Decimal.{Decimal}
use Rattle.number.specs.Grammar.{Plus, Sign, Fraction, SaysU, SaysI, SaysPlain, SaysR}
use Rattle.number.proofs.Laws.Choice.{and_left, and_right, and_both, chosen}
use Rattle.number.proofs.Laws.Digits.{digit_not, digits_append}
use Rattle.number.proofs.Laws.Decimal.{point-split, plain-parted}

-- ---- the sign
first : (k b : ℕ) (t : List ℕ) → eqb b k ≡ true → b ∷ t ≡ (k ∷ []) ++ t
first k b t e = ap (λ (k : ℕ). k ∷ t) (eqb-true b k e)

plus_form : (t : List ℕ) → (s : List ℕ) × Plus s × (t ≡ s ++ after_plus t)
unfolding after_plus begins
plus_form [] = ([], Plus.none, refl)
plus_form (b ∷ t) = go (eqb b 43) refl
  where
    go : (p : Bool) → eqb b 43 ≡ p → (s : List ℕ) × Plus s × (b ∷ t ≡ s ++ drop (cond p 1 0) (b ∷ t))
    go true e = (43 ∷ [], Plus.plus, first 43 b t e)
    go false e = ([], Plus.none, refl)

plus-read : {s : List ℕ} → Plus s → (d : List ℕ) → begins 43 d ≡ false → after_plus (s ++ d) ≡ d
unfolding after_plus begins
plus-read Plus.none d n = rw n refl
plus-read Plus.plus d n = refl

pub sign_form : (t : List ℕ) → (s : List ℕ) × Sign (begins 45 t) s × (t ≡ s ++ after_sign t)
unfolding after_sign begins
sign_form [] = ([], Sign.unsigned, refl)
sign_form (b ∷ t) = go (eqb b 43) (eqb b 45) refl refl
  where
    go : (p q : Bool) → eqb b 43 ≡ p → eqb b 45 ≡ q → (s : List ℕ) × Sign q s × (b ∷ t ≡ s ++ drop (cond (p || q) 1 0) (b ∷ t))
    go true true e f = absurd (omega (arith, eqb-true b 43 e, eqb-true b 45 f))
    go true false e f = (43 ∷ [], Sign.plus, first 43 b t e)
    go false true e f = (45 ∷ [], Sign.minus, first 45 b t f)
    go false false e f = ([], Sign.unsigned, refl)

pub sign_read : {m : Bool} {s : List ℕ} → Sign m s → (d : List ℕ) → begins 43 d ≡ false → begins 45 d ≡ false
    → (begins 45 (s ++ d) ≡ m) × (after_sign (s ++ d) ≡ d)
unfolding after_sign begins
sign_read Sign.unsigned d p q = (q, rw (p, q) refl)
sign_read Sign.plus d p q = (refl, refl)
sign_read Sign.minus d p q = (refl, refl)

-- digits do not begin with a sign, nor does a fraction
begins-digits : (k : ℕ) (d : List ℕ) {t u : List ℕ} → Fraction t u → k < 46 → digits d ≡ true → begins k (d ++ t) ≡ false
unfolding begins digits
begins-digits k [] Fraction.whole l e = refl
begins-digits k [] (Fraction.point u) l e = ne_eqb 46 k (λ q. omega arith)
begins-digits k (b ∷ d) f l e = digit_not k b (omega arith) (and_left (digit b) (digits d) e)

pub no_sign : (k : ℕ) (d : List ℕ) → k < 46 → digits d ≡ true → begins k d ≡ false
no_sign k d l e = rw (append-nil d) at (begins-digits k d Fraction.whole l e)

-- one or more digits
pub some_form : (d : List ℕ) → some_digits d ≡ true → (0 < length d) × (digits d ≡ true)
some_form d e =
    (ltb-true 0 (length d) (and_left (ltb 0 (length d)) (digits d) e), and_right (ltb 0 (length d)) (digits d) e)

pub some_read : (d : List ℕ) → 0 < length d → digits d ≡ true → some_digits d ≡ true
some_read d h e = and_both (lt-ltb 0 (length d) h) e

-- ---- whole numbers
pub unsigned_form : (t : List ℕ) {n : ℕ} → unsigned_of t ≡ Some n → SaysU t n
unfolding unsigned_of digits_of
unsigned_form t {n} e =
    let (s, p, text) = plus_form (trimmed t) in
    let d = after_plus (trimmed t) in
    let small = ltb (value_of d) (2 ^ 64) in
    let (c, u) = chosen (some_digits d && small) (Some (value_of d)) None e (λ q. cc) in
    let (some, each) = some_form d (and_left (some_digits d) small c) in
    let value : n ≡ value_of d = cc in
    let limit : n < 2 ^ 64 = rw value (ltb-true (value_of d) (2 ^ 64) (and_right (some_digits d) small c)) in
    record { sign = s; digs = d; plus = p; text = text; some = some; each = each; value = value; limit = limit }

pub unsigned-read : {t : List ℕ} {n : ℕ} → SaysU t n → unsigned_of t ≡ Some n
unfolding unsigned_of digits_of
unsigned-read {n = n} h =
    let d = h.digs in
    rw (h.text, plus-read h.plus d (no_sign 43 d (lit< tt) h.each), some_read d h.some h.each)
    (rw (← h.value, lt-ltb n (2 ^ 64) h.limit) refl)

pub signed_form : (t : List ℕ) {z : ℤ} → signed_of t ≡ Some z → SaysI t z
unfolding signed_of signed_digits
signed_form t e =
    let (s, p, text) = sign_form (trimmed t) in
    let m = begins 45 (trimmed t) in
    let d = after_sign (trimmed t) in
    let small = leb (value_of d) (most m) in
    let (c, u) = chosen (some_digits d && small) (Some (with_sign m (value_of d))) None e (λ q. cc) in
    let (some, each) = some_form d (and_left (some_digits d) small c) in
    let limit = leb-true (value_of d) (most m) (and_right (some_digits d) small c) in
    record { is_minus = m; sign = s; digs = d; signed = p; text = text; some = some; each = each; value = cc; limit = limit }

pub signed-read : {t : List ℕ} {z : ℤ} → SaysI t z → signed_of t ≡ Some z
unfolding signed_of signed_digits
signed-read h =
    let d = h.digs in
    let (m, a) = sign_read h.signed d (no_sign 43 d (lit< tt) h.each) (no_sign 45 d (lit< tt) h.each) in
    rw (h.text, m, a, some_read d h.some h.each, le-leb (value_of d) (most h.is_minus) h.limit, ← h.value) refl

-- ---- plain decimals
pub plain_form : (t : List ℕ) {s : Bool} {m p : ℕ} → plain_of (begins 45 t) (after_sign t) ≡ Some (plain s m p) → SaysPlain t s m p
unfolding plain_of without_point
plain_form t {s} {m} {p} e =
    let (g, signed, text) = sign_form t in
    let u = after_sign t in
    let d = without_point u in
    let (tail, f, split) = point-split u in
    let is_minus = begins 45 t in
    let (c, r) = chosen (some_digits d) (Some (plain is_minus (value_of d) (length (behind_point u)))) None e (λ q. cc) in
    let (some, each) = some_form d c in
    let same : plain is_minus (value_of d) (length (behind_point u)) ≡ plain s m p = cc in
    record {
      sign = g;
      front = before_point u;
      tail = tail;
      behind = behind_point u;
      signed = rw (ap (λ (n : Decimal). n.minus) same) at signed;
      fraction = f;
      text = text ∙ ap (λ (l : List ℕ). g ++ l) split ∙ sym (append_assoc g (before_point u) tail);
      some = some;
      each = each;
      value = sym (ap (λ (n : Decimal). n.digits) same);
      places = sym (ap (λ (n : Decimal). n.places) same);
    }

pub plain-read : {t : List ℕ} {s : Bool} {m p : ℕ} → SaysPlain t s m p → plain_of (begins 45 t) (after_sign t) ≡ Some (plain s m p)
plain-read {s = s} h =
    let d = h.front in
    let u = h.behind in
    let f = h.fraction in
    let each = and_left (digits d) (digits u) (sym (digits_append d u) ∙ h.each) in
    let (m, a) =
    sign_read h.signed (d ++ h.tail) (begins-digits 43 d f (lit< tt) each) (begins-digits 45 d f (lit< tt) each) in
    rw (h.text, append_assoc h.sign d h.tail, m, a, plain-parted s d f each)
    (rw (some_read (d ++ u) h.some h.each, ← h.value, ← h.places) refl)

pub decimal_form : (t : List ℕ) {s : Bool} {m p : ℕ} → decimal_of t ≡ Some (plain s m p) → SaysR t s m p
unfolding decimal_of
decimal_form t e =
    let u = trimmed t in
    let (w, v) = chosen (leb (length u) 10) (plain_of (begins 45 u) (after_sign u)) None e (λ q. cc) in
    record { plain = plain_form u v; width = leb-true (length u) 10 w }

pub decimal-read : {t : List ℕ} {s : Bool} {m p : ℕ} → SaysR t s m p → decimal_of t ≡ Some (plain s m p)
unfolding decimal_of
decimal-read {t} h = rw (le-leb (length (trimmed t)) 10 h.width) (plain-read h.plain)
