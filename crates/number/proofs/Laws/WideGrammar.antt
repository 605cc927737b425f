-- The reading of exponents and the grammar say the same.
--     marked_form, marked-read    what is read with an exponent has the grammar's form, and all that has it is read
--     marked_not_plain            and is no plain decimal
--     wide_read                   so with the option on it is read with its exponent
-- Assumes nothing.
use Prim.Native.Nat.{ℕ, suc, ◌+◌, ◌^◌, ◌≤◌, ◌<◌}
use mathlib.Core.Path.{◌≡◌, refl, sym, ap, ◌∙◌}
use mathlib.Core.Bool.{Bool, true, false, cond, ◌&&◌}
use mathlib.Core.List.{List, [], ◌∷◌, ◌++◌}
use native.Mathlib.Omega.{arith}
use borrow.Author.Tests.{lt-ltb, le-leb, leb-true, ne_eqb}
use lib.ListN.{length, get_or, length-append, length-drop}
use lib.Seq.{split_at, take_at, drop-append-add}
use lib.Dec.{lit<, leb, ltb}
use Rattle.std.specs.Prelude.{Option, Some, None}
use Rattle.number.specs.Trim.{trimmed}
use Rattle.number.specs.Whole.{digit, digits, some_digits, value_of, begins, after_sign, digits_of}
use Rattle.number.specs.Decimal.{plain, plain_of, decimal_of}
use Rattle.number.specs.Grammar.{Sign, Fraction, SaysPlain, SaysX}
use Rattle.number.specs.Wide.{wide, mark, mark_at, before_mark, behind_mark, wide_from, marked_parts, marked_in, marked_of, wide_of}
use Rattle.number.specs.declared.decimal.Decimal.{Decimal}
use Rattle.number.specs.declared.wide.Wide.{Wide}
use Rattle.number.proofs.Laws.Choice.{and_left, and_right, chosen}
use Rattle.number.proofs.Laws.Digits.{digits_append, after_sign-le, value-below}
use Rattle.number.proofs.Laws.Grammar.{sign_form, sign_read, no_sign, some_form, some_read, plain_form, plain-read, decimal_form}

-- ---- where no mark stands
mark-append : (a b : List ℕ) → mark_at a ≡ length a → mark_at (a ++ b) ≡ length a + mark_at b
unfolding mark_at
mark-append [] b e = omega arith
mark-append (x ∷ a) b e = go (mark x) (λ (h : mark_at a ≡ length a). mark-append a b h) e
  where
    go : (q : Bool) → (mark_at a ≡ length a → mark_at (a ++ b) ≡ length a + mark_at b) → cond q 0 (suc (mark_at a)) ≡ suc (length a)
        → cond q 0 (suc (mark_at (a ++ b))) ≡ suc (length a) + mark_at b
    go true ih e = absurd (omega arith)
    go false ih e = let k = ih (omega arith) in omega arith

unmarked-both : (a b : List ℕ) → mark_at a ≡ length a → mark_at b ≡ length b → mark_at (a ++ b) ≡ length (a ++ b)
unmarked-both a b e f = omega (arith, mark-append a b e, length-append a b)

digit-unmarked : (b : ℕ) → digit b ≡ true → mark b ≡ false
unfolding mark digit
digit-unmarked b e =
    let h = leb-true b 57 (and_right (leb 48 b) (leb b 57) e) in
    rw (ne_eqb b 101 (λ q. omega arith), ne_eqb b 69 (λ q. omega arith)) refl

digits-unmarked : (d : List ℕ) → digits d ≡ true → mark_at d ≡ length d
unfolding mark_at digits
digits-unmarked [] e = refl
digits-unmarked (b ∷ d) e =
    rw (digit-unmarked b (and_left (digit b) (digits d) e)) (ap suc (digits-unmarked d (and_right (digit b) (digits d) e)))

sign-unmarked : {m : Bool} {s : List ℕ} → Sign m s → mark_at s ≡ length s
unfolding mark_at mark
sign-unmarked Sign.unsigned = refl
sign-unmarked Sign.plus = refl
sign-unmarked Sign.minus = refl

fraction-unmarked : {t u : List ℕ} → Fraction t u → digits u ≡ true → mark_at t ≡ length t
unfolding mark_at mark
fraction-unmarked Fraction.whole e = refl
fraction-unmarked (Fraction.point u) e = ap suc (digits-unmarked u e)

plain-unmarked : (u : List ℕ) {s : Bool} {m p : ℕ} → SaysPlain u s m p → mark_at u ≡ length u
plain-unmarked u h =
    let d = h.front in
    let b = h.behind in
    let both = sym (digits_append d b) ∙ h.each in
    let front = unmarked-both h.sign d (sign-unmarked h.signed) (digits-unmarked d (and_left (digits d) (digits b) both)) in
    rw h.text (unmarked-both (h.sign ++ d) h.tail front (fraction-unmarked h.fraction (and_right (digits d) (digits b) both)))

-- ---- at the mark
mark-found : (t : List ℕ) → mark_at t < length t → mark (get_or t (mark_at t) 0) ≡ true
unfolding mark_at
mark-found [] h = absurd (omega arith)
mark-found (b ∷ t) h = go (mark b) refl (λ (k : mark_at t < length t). mark-found t k) h
  where
    go : (q : Bool) → mark b ≡ q → (mark_at t < length t → mark (get_or t (mark_at t) 0) ≡ true) → cond q 0 (suc (mark_at t)) < suc (length t)
        → mark (get_or (b ∷ t) (cond q 0 (suc (mark_at t))) 0) ≡ true
    go true e ih h = e
    go false e ih h = ih (omega arith)

mark-place : (a : List ℕ) (l : ℕ) (r : List ℕ) → mark_at a ≡ length a → mark l ≡ true → mark_at (a ++ l ∷ r) ≡ length a
mark-place a l r e m = omega (arith, mark-append a (l ∷ r) e, starts)
  where
    starts : mark_at (l ∷ r) ≡ 0
    starts = unfold mark_at in rw m refl

at_mark : (a : List ℕ) (l : ℕ) (r : List ℕ) → mark_at a ≡ length a → mark l ≡ true
    → (before_mark (a ++ l ∷ r) ≡ a) × (behind_mark (a ++ l ∷ r) ≡ r)
at_mark a l r e m =
    let place = mark-place a l r e m in
    let next : suc (length a) ≡ length a + 1 = omega arith in
    (take_at a (l ∷ r) (mark_at (a ++ l ∷ r)) (sym place), rw (place, next) (drop-append-add a (l ∷ r) 1))

-- ---- both ways
from_form : (d : Option Decimal) (l : Bool) (y : Option ℕ) {s : Bool} {m p : ℕ} {lower : Bool} {x : ℕ} → wide_from d l y ≡ Some (wide (plain s m p) lower x)
    → (d ≡ Some (plain s m p)) × (y ≡ Some x) × (l ≡ lower)
from_form None l y e = absurd (let z : ◌≡◌ {A = ℕ} 0 1 = cc in omega arith)
from_form (Some d) l None e = absurd (let z : ◌≡◌ {A = ℕ} 0 1 = cc in omega arith)
from_form (Some d) l (Some y) {s} {m} {p} {lower} {x} e =
    let same : wide d l y ≡ wide (plain s m p) lower x = cc in
    (ap (λ (w : Wide). Some w.decimal) same, ap (λ (w : Wide). Some w.exponent) same, ap (λ (w : Wide). w.lower) same)

pub marked_form : (t : List ℕ) {s : Bool} {m p : ℕ} {lower : Bool} {x : ℕ} → marked_of t ≡ Some (wide (plain s m p) lower x) → SaysX t s m p lower x
unfolding marked_of marked_in marked_parts digits_of
marked_form t {s} {m} {p} {lower} {x} e =
    let u = trimmed t in
    let f = before_mark u in
    let b = behind_mark u in
    let d = after_sign b in
    let (w, v) = chosen (leb (length u) 10) (marked_parts f b) None e (λ q. cc) in
    let (plain, digs, low) = from_form (plain_of (begins 45 f) (after_sign f)) (begins 45 b) (digits_of d) v in
    let small = ltb (value_of d) (2 ^ 64) in
    let (c, r) = chosen (some_digits d && small) (Some (value_of d)) None digs (λ q. cc) in
    let (some, each) = some_form d (and_left (some_digits d) small c) in
    let (g, signed, text) = sign_form b in
    let value : x ≡ value_of d = cc in
    let inside : mark_at u < length u = omega (arith, after_sign-le b, length-drop (suc (mark_at u)) u) in
    record {
      decimal = f;
      letter = get_or u (mark_at u) 0;
      sign = g;
      digs = d;
      text = split_at u (mark_at u) 0 inside ∙ ap (λ (l : List ℕ). f ++ get_or u (mark_at u) 0 ∷ l) text;
      width = leb-true (length u) 10 w;
      plain = plain_form f plain;
      is_mark = mark-found u inside;
      signed = rw low at signed;
      some = some;
      each = each;
      value = value;
    }

pub marked-read : (t : List ℕ) {s : Bool} {m p : ℕ} {lower : Bool} {x : ℕ} → SaysX t s m p lower x → marked_of t ≡ Some (wide (plain s m p) lower x)
unfolding marked_of marked_in marked_parts digits_of
marked-read t h =
    let a = h.decimal in
    let r = h.sign ++ h.digs in
    let d = h.digs in
    let (before, behind) = at_mark a h.letter r (plain-unmarked a h.plain) h.is_mark in
    let (low, rest) = sign_read h.signed d (no_sign 43 d (lit< tt) h.each) (no_sign 45 d (lit< tt) h.each) in
    let long : length d ≤ 10 = omega (arith, h.width, ap length h.text, length-append a (h.letter ∷ r), length-append h.sign d) in
    let few = value-below d 10 h.each long in
    rw (
      le-leb (length (trimmed t)) 10 h.width,
      h.text,
      before,
      behind,
      plain-read h.plain,
      low,
      rest,
      some_read d h.some h.each,
      lt-ltb (value_of d) (2 ^ 64) (omega arith),
      ← h.value,
    ) refl

-- no such text is a plain decimal
pub marked_not_plain : (t : List ℕ) {s : Bool} {m p : ℕ} {lower : Bool} {x : ℕ} → SaysX t s m p lower x → decimal_of t ≡ None
marked_not_plain t h = go (decimal_of t) refl
  where
    go : (d : Option Decimal) → decimal_of t ≡ d → d ≡ None
    go None e = refl
    go (Some d) e =
        let a = h.decimal in
        let r = h.sign ++ h.digs in
        let none = plain-unmarked (trimmed t) (decimal_form t e).plain in
        let place = mark-place a h.letter r (plain-unmarked a h.plain) h.is_mark in
        absurd (omega (arith, none, ap mark_at h.text, ap length h.text, place, length-append a (h.letter ∷ r)))

-- with the option on it is read so
pub wide_read : (t : List ℕ) {s : Bool} {m p : ℕ} {lower : Bool} {x : ℕ} → SaysX t s m p lower x → wide_of t ≡ Some (wide (plain s m p) lower x)
unfolding wide_of
wide_read t h = rw (marked_not_plain t h, marked-read t h) refl
