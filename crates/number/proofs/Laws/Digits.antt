-- Laws of digits and the number they say.
--     digit-at_most, digit_not                     one digit
--     digit_low, -high, -yes                       whether a byte is a digit, by the tests
--     value_ge, value-below                        the number is no less than what stood before, and below 10 ^ w for w digits
--     value-append, digits_append, digits-at       two texts, one behind the other, and one byte of a text
--     begins-long, starts-begins                   what a text begins with
--     plus_stripped, sign-plus, -minus, -none      a text behind its sign, by the tests
--     after_sign-le                                it is no longer
-- Assumes nothing.
use Prim.Native.Nat.{ℕ, zero, suc, ◌+◌, ◌-◌, ◌*◌, ◌^◌, ◌≤◌, ◌<◌}
use mathlib.Core.Path.{◌≡◌, refl, sym, ap, ◌∙◌}
use mathlib.Core.Bool.{Bool, true, false, ◌&&◌, and-false, and-true}
use mathlib.Core.List.{List, [], ◌∷◌, ◌++◌}
use native.Mathlib.Nat.{mul-le-mul_right, mul_assoc, lt_of_lt_of_le, mul-one, pow-succ', pow-le-pow_right, one-mul, zero-lt-suc}
use native.Mathlib.Omega.{arith}
use borrow.Author.Tests.{le-leb, lt-leb, leb-true, eq-eqb, ne_eqb, eqb-true}
use lib.ListN.{length, take, drop, get_or, length-drop}
use lib.Dec.{leb, eqb}
use Rattle.std.specs.List.{starts_with}
use Rattle.std.specs.Prelude.{nat_eq, Option, Some, None, MatchOption, unwrap_or}
use Rattle.std.specs.Borrow.{Bor}
use lib.Pointwise.{pointwise}
use Rattle.number.proofs.Laws.Choice.{and_left, and_right, and_assoc, clash}
use Rattle.number.proofs.Laws.Trim.{rest_from}
use Rattle.number.specs.Whole.{digit, digits, joined, value_from, value_of, begins, after_plus, after_sign}

-- ---- one digit
-- a digit's byte is from 48 to 57
pub digit-at_most : (b : ℕ) → digit b ≡ true → b - 48 ≤ 9
unfolding digit
digit-at_most b e =
    let h = leb-true b 57 (and_right (leb 48 b) (leb b 57) e) in omega arith

-- so it is no sign and no point
pub digit_not : (k b : ℕ) → k < 48 → digit b ≡ true → eqb b k ≡ false
unfolding digit
digit_not k b l e = let h = leb-true 48 b (and_left (leb 48 b) (leb b 57) e) in ne_eqb b k (λ q. omega arith)

-- whether a byte is a digit, from the tests that a reader makes
pub digit_low : (b : ℕ) → b < 48 → digit b ≡ false
unfolding digit
digit_low b h = rw (lt-leb 48 b h) refl

pub digit-high : (b : ℕ) → 57 < b → digit b ≡ false
unfolding digit
digit-high b h = rw (lt-leb b 57 h) (and-false (leb 48 b))

pub digit_yes : (b : ℕ) → 48 ≤ b → b ≤ 57 → digit b ≡ true
unfolding digit
digit_yes b l h = rw (le-leb 48 b l, le-leb b 57 h) refl

-- ---- the number
pub value_ge : (t : List ℕ) (m : ℕ) → m ≤ value_from m t
unfolding value_from
value_ge [] m = omega arith
value_ge (b ∷ t) m = let ih = value_ge t (joined m b) in omega arith

-- m behind w digits is below (m + 1) * 10 ^ w: one more digit d keeps m * 10 + d + 1 at most (m + 1) * 10
value_lt : (t : List ℕ) (m : ℕ) → digits t ≡ true → value_from m t < (m + 1) * 10 ^ length t
unfolding value_from digits
value_lt [] m e = simp mul-one (omega arith)
value_lt (b ∷ t) m e =
    let d = digit-at_most b (and_left (digit b) (digits t) e) in
    let ih = value_lt t (joined m b) (and_right (digit b) (digits t) e) in
    let s : (joined m b + 1) * 10 ^ length t ≤ (m + 1) * 10 * 10 ^ length t = mul-le-mul_right (10 ^ length t) (omega arith) in
    let q : (m + 1) * 10 ^ suc (length t) ≡ (m + 1) * 10 * 10 ^ length t =
    ap (λ (k : ℕ). (m + 1) * k) (pow-succ' 10 (length t)) ∙ sym (mul_assoc (m + 1) 10 (10 ^ length t)) in
    omega arith

-- up to w digits say a number below 10 ^ w
pub value-below : (t : List ℕ) (w : ℕ) → digits t ≡ true → length t ≤ w → value_of t < 10 ^ w
value-below t w e h = lt_of_lt_of_le (rw (one-mul (10 ^ length t)) at (value_lt t 0 e)) (pow-le-pow_right (zero-lt-suc 9) h)

-- ---- one text behind another
pub value-append : (s t : List ℕ) (m : ℕ) → value_from m (s ++ t) ≡ value_from (value_from m s) t
unfolding value_from
value-append [] t m = refl
value-append (b ∷ s) t m = value-append s t (joined m b)

pub digits_append : (s t : List ℕ) → digits (s ++ t) ≡ digits s && digits t
unfolding digits
digits_append [] t = refl
digits_append (b ∷ s) t = rw (digits_append s t) (and_assoc (digit b) (digits s) (digits t))

pub digits-at : (t : List ℕ) (i : ℕ) → i < length t → digits t ≡ true → digit (get_or t i 0) ≡ true
unfolding digits
digits-at [] i h e = absurd (omega arith)
digits-at (b ∷ t) zero h e = and_left (digit b) (digits t) e
digits-at (b ∷ t) (suc i) h e = digits-at t i (omega arith) (and_right (digit b) (digits t) e)

-- ---- behind a sign
pub begins-long : (b : ℕ) (t : List ℕ) → begins b t ≡ true → 1 ≤ length t
unfolding begins
begins-long b [] e = absurd (clash e refl)
begins-long b (x ∷ t) e = omega arith

eqb_turned : (a b : ℕ) → eqb a b ≡ eqb b a
eqb_turned a b = go (eqb a b) refl
  where
    go : (r : Bool) → eqb a b ≡ r → r ≡ eqb b a
    go true e = sym (eq-eqb b a (sym (eqb-true a b e)))
    go false e = sym (ne_eqb b a (λ q. clash (eq-eqb a b (sym q)) e))

pub starts-begins : (b : ℕ) (t : List ℕ) → starts_with nat_eq t (b ∷ []) ≡ begins b t
unfolding begins
starts-begins b [] = refl
starts-begins b (x ∷ t) = and-true (nat_eq b x) ∙ eqb_turned b x

-- by what the library says of a text that begins with a plus or not
plus-begins : (t : List ℕ) → pointwise nat_eq (take 1 t) (43 ∷ []) ≡ begins 43 t
unfolding begins
plus-begins [] = refl
plus-begins (x ∷ t) = and-true (nat_eq x 43)

module _ (t : List ℕ) where
  pub plus_stripped : (r : Option (Bor (List ℕ))) (u : Bor (List ℕ))
      → MatchOption r (pointwise nat_eq (take 1 t) (43 ∷ []) ≡ false)
      (λ x. (pointwise nat_eq (take 1 t) (43 ∷ []) ≡ true) × (x.now ≡ drop 1 t) × (length x.now + 1 ≡ length t))
      → u.now ≡ t → (unwrap_or r u).now ≡ after_plus t
  unfolding after_plus
  plus_stripped None u other e = rw (sym (plus-begins t) ∙ other) e
  plus_stripped (Some x) u h e = rw (sym (plus-begins t) ∙ h.0) h.1

module _ (t : List ℕ) where
  pub sign-plus : begins 43 t ≡ true → take (length t - 1) (drop 1 t) ≡ after_sign t
  unfolding after_sign
  sign-plus e = rw e (rest_from 1 t)

  pub sign-minus : begins 43 t ≡ false → begins 45 t ≡ true → take (length t - 1) (drop 1 t) ≡ after_sign t
  unfolding after_sign
  sign-minus e f = rw (e, f) (rest_from 1 t)

  pub sign-none : begins 43 t ≡ false → begins 45 t ≡ false → t ≡ after_sign t
  unfolding after_sign
  sign-none e f = rw (e, f) refl

  pub after_sign-le : length (after_sign t) ≤ length t
  unfolding after_sign
  after_sign-le = simp length-drop (omega arith)
