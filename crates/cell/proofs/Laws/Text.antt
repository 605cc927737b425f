-- What is written reads back.
--     pointed-parts, tail-length           a decimal is its digits before the point and a tail, which is empty without places
--     fixed-read                           a decimal in its columns says its digits, places and sign
--     real-back, real-again                the double that it is read as
-- Assumes nothing.
use mathlib.Core.Path.{◌≡◌, refl, sym, ap, ◌∙◌}
use Prim.Native.Nat.{ℕ, zero, suc, ◌+◌, ◌-◌, ◌*◌, ◌/◌, ◌%◌, ◌^◌, ◌≤◌, ◌<◌}
use native.Mathlib.Nat.{div-one, le_refl, le_trans, add-zero, zero-add, mul_assoc, div-add-mod', zero-lt-suc, one-le-pow, pow-suc, div-le_self}
use native.Mathlib.Omega.{arith}
use mathlib.Core.Bool.{Bool, true, false}
use mathlib.Core.List.{List, [], ◌∷◌, ◌++◌, append-nil}
use borrow.Author.Tests.{ne_eqb, lt-leb, le-leb}
use lib.ListN.{length, length-append}
use lib.Seq.{take_all}
use lib.Arith.{mod-mul}
use lib.Ieee.{Float}
use Rattle.std.specs.Prelude.{Some}
use Rattle.page.specs.Numerals.{decimal}
use Rattle.page.specs.Said.{decimal_said}
use Rattle.page.proofs.Laws.Lists.{Between}
use Rattle.page.proofs.Laws.Decimal.{decimal-length, decimal-says, between}
use Rattle.number.specs.Trim.{white, leading, kept, end_trimmed, trimmed}
use Rattle.number.specs.Whole.{digits, joined, value_from, value_of}
use Rattle.number.specs.Decimal.{plain, decimal_of}
use Rattle.real.specs.Double.{double_of}
use Rattle.real.specs.Real.{real, real_of}
use Rattle.number.specs.Grammar.{Sign, Fraction}
use Rattle.number.proofs.Laws.Digits.{digits_append, value-append, digit_yes}
use Rattle.number.proofs.Laws.Grammar.{decimal-read}
use Rattle.real.proofs.Laws.Real.{real-is}
use Rattle.cell.specs.Text.{last_digits, pointed, behind_minus, fixed, blanks, right}
use Rattle.cell.specs.Places.{rounded, rounded_to}
use Rattle.cell.proofs.Laws.Places.{places-few, places-again, written_back, written_same}

-- ---- trim
blank-out : (t : List ℕ) → trimmed (32 ∷ t) ≡ trimmed t
unfolding trimmed leading white
blank-out t = refl

pub blanks-out : (k : ℕ) (t : List ℕ) → trimmed (blanks k ++ t) ≡ trimmed t
unfolding blanks
blanks-out zero t = refl
blanks-out (suc k) t = blank-out (blanks k ++ t) ∙ blanks-out k t

pub right-trimmed : (w : ℕ) (t : List ℕ) → trimmed (right w t) ≡ trimmed t
unfolding right
right-trimmed w t = blanks-out (w - length t) t

dark : (b : ℕ) → 45 ≤ b → white b ≡ false
unfolding white
dark b h = rw (ne_eqb b 32 (λ e. omega arith), lt-leb b 13 (omega arith), le-leb 9 b (omega arith)) refl

dark-kept : (t : List ℕ) → Between 45 57 t → kept t ≡ length t
unfolding kept
dark-kept [] w = refl
dark-kept (b ∷ t) w = rw (dark b w.0.0) (ap suc (dark-kept t w.1))

dark-leading : (t : List ℕ) → Between 45 57 t → leading t ≡ 0
unfolding leading
dark-leading [] w = refl
dark-leading (b ∷ t) w = rw (dark b w.0.0) refl

pub dark-trimmed : (t : List ℕ) → Between 45 57 t → trimmed t ≡ t
unfolding trimmed end_trimmed
dark-trimmed t w = rw (dark-leading t w, dark-kept t w) (take_all (length t) t (le_refl (length t)))

-- ---- digits
pub between_more : (a b : ℕ) (t : List ℕ) → a ≤ 48 → 57 ≤ b → Between 48 57 t → Between a b t
between_more a b [] h k w = tt
between_more a b (x ∷ t) h k w = ((omega arith, omega arith), between_more a b t h k w.1)

between-append : (a b : ℕ) (s t : List ℕ) → Between a b s → Between a b t → Between a b (s ++ t)
between-append a b [] t v w = w
between-append a b (x ∷ s) t v w = (v.0, between-append a b s t v.1 w)

pub all_digits : (t : List ℕ) → Between 48 57 t → digits t ≡ true
unfolding digits
all_digits [] w = refl
all_digits (b ∷ t) w = rw (digit_yes b w.0.0 w.0.1, all_digits t w.1) refl

pub same-said : (m : ℕ) (t : List ℕ) → decimal_said m t ≡ value_from m t
unfolding decimal_said value_from
same-said m [] = refl
same-said m (b ∷ t) = same-said (m * 10 + (b - 48)) t

last-between : (k n : ℕ) (t : List ℕ) → Between 48 57 t → Between 48 57 (last_digits k n t)
unfolding last_digits
last-between zero n t w = w
last-between (suc k) n t w = last-between k (n / 10) ((48 + n % 10) ∷ t) ((omega arith, omega arith), w)

pub last-length : (k n : ℕ) (t : List ℕ) → length (last_digits k n t) ≡ k + length t
unfolding last_digits
last-length zero n t = sym (zero-add (length t))
last-length (suc k) n t = last-length k (n / 10) ((48 + n % 10) ∷ t) ∙ omega arith

last-value : (k m n : ℕ) (t : List ℕ) → value_from m (last_digits k n t) ≡ value_from (m * 10 ^ k + n % 10 ^ k) t
unfolding last_digits value_from
last-value zero m n t = ap (λ (z : ℕ). value_from z t) (omega arith)
last-value (suc k) m n t =
    let e = mod-mul n {m = 10 ^ k} {c = 10} (one-le-pow k 10 (zero-lt-suc 9)) (zero-lt-suc 9) in
    let same : joined (m * 10 ^ k + n / 10 % 10 ^ k) (48 + n % 10) ≡ m * 10 ^ suc k + n % 10 ^ suc k =
    rw (pow-suc 10 k) (omega (arith, mul_assoc m (10 ^ k) 10)) in
    last-value k m (n / 10) ((48 + n % 10) ∷ t) ∙ ap (λ (z : ℕ). value_from z t) same

-- ---- the decimal
-- the point and what stands behind it
abbrev pub tail_of : ℕ → ℕ → List ℕ
tail_of zero n = []
tail_of (suc q) n = 46 ∷ last_digits (suc q) n []

tail-fraction : (q n : ℕ) → Fraction (tail_of q n) (last_digits q n [])
unfolding last_digits
tail-fraction zero n = Fraction.whole
tail-fraction (suc q) n = Fraction.point (last_digits (suc q) n [])

tail-between : (q n : ℕ) → Between 45 57 (tail_of q n)
tail-between zero n = tt
tail-between (suc q) n =
    let digs = last_digits (suc q) n [] in
    ((omega arith, omega arith), between_more 45 57 digs (omega arith) (omega arith) (last-between (suc q) n [] tt))

pub tail-length : (q n : ℕ) → length (tail_of q n) ≤ q + 1
tail-length zero n = omega arith
tail-length (suc q) n = omega (arith, last-length (suc q) n [])

pub pointed-parts : (q n : ℕ) → pointed q n ≡ decimal (n / 10 ^ q) ++ tail_of q n
unfolding pointed
pointed-parts zero n = let one : n / 10 ^ 0 ≡ n = div-one n in rw one (sym (append-nil (decimal n)))
pointed-parts (suc q) n = refl

module _ (q : ℕ) (s : Bool) (n : ℕ) (few : n < 10 ^ 10) where
  front-small : n / 10 ^ q < 2 ^ 64
  front-small = omega (arith, div-le_self n (10 ^ q))

  value-is : n ≡ value_of (decimal (n / 10 ^ q) ++ last_digits q n [])
  unfolding value_from
  value-is =
      let a = decimal (n / 10 ^ q) in
      let said : value_from 0 a ≡ n / 10 ^ q = sym (same-said 0 a) ∙ decimal-says (n / 10 ^ q) front-small in
      sym (value-append a (last_digits q n []) 0 ∙ rw said (last-value q (n / 10 ^ q) n [] ∙ div-add-mod' n (10 ^ q)))

  pointed-between : Between 45 57 (pointed q n)
  pointed-between =
      let front = decimal (n / 10 ^ q) in
      rw (pointed-parts q n)
      (between-append 45 57 front (tail_of q n)
      (between_more 45 57 front (omega arith) (omega arith) (between (n / 10 ^ q) front-small))
      (tail-between q n))

  pub fixed-between : Between 45 57 (fixed q s n)
  unfolding fixed
  fixed-between = go s
    where
      go : (s : Bool) → Between 45 57 (behind_minus s (pointed q n))
      go false = pointed-between
      go true = ((omega arith, omega arith), pointed-between)

  sign_of : (g : List ℕ) × Sign s g × (fixed q s n ≡ g ++ decimal (n / 10 ^ q) ++ tail_of q n)
  unfolding fixed
  sign_of = rw (pointed-parts q n) (go s)
    where
      go : (s : Bool) → (g : List ℕ) × Sign s g × (behind_minus s (decimal (n / 10 ^ q) ++ tail_of q n) ≡ g ++ decimal (n / 10 ^ q) ++ tail_of q n)
      go false = ([], Sign.unsigned, refl)
      go true = (45 ∷ [], Sign.minus, refl)

  pub fixed-read : (w : ℕ) → length (fixed q s n) ≤ w → w ≤ 10 → decimal_of (right w (fixed q s n)) ≡ Some (plain s n q)
  fixed-read w h k =
      let t = fixed q s n in
      let front = decimal (n / 10 ^ q) in
      let behind = last_digits q n [] in
      let (g, signed, text) = sign_of in
      let whole : trimmed (right w t) ≡ t = right-trimmed w t ∙ dark-trimmed t fixed-between in
      decimal-read (record {
        width = rw whole (le_trans h k);
        plain = record {
          sign = g;
          front = front;
          tail = tail_of q n;
          behind = behind;
          signed = signed;
          fraction = tail-fraction q n;
          text = whole ∙ text;
          some = omega (arith, length-append front behind, (decimal-length (n / 10 ^ q) front-small).0);
          each = rw (digits_append front behind, all_digits front (between (n / 10 ^ q) front-small), all_digits behind (last-between q n [] tt)) refl;
          value = value-is;
          places = sym (last-length q n [] ∙ add-zero q);
        };
      })

-- ---- the double that a written field is read as
-- of a double that was read of M over 10 ^ p, with no more places than are written, the field is read as the same double
pub real-back : (s : Bool) (m p q w : ℕ) → m < 10 ^ 10 → p ≤ q → q ≤ 9 → m * 10 ^ (q - p) < 10 ^ 10
    → length (fixed q s (m * 10 ^ (q - p))) ≤ w → w ≤ 10
    → (rounded_to q (double_of s m p) ≡ Some (rounded s (m * 10 ^ (q - p))))
    × (real_of (right w (fixed q s (m * 10 ^ (q - p)))) ≡ Some (real (double_of s m p) q))
real-back s m p q w few short long fit h k =
    let n = m * 10 ^ (q - p) in (
      written_back s m p q few short long fit,
      real-is (right w (fixed q s n)) (fixed-read q s n fit w h k) ∙ ap (λ (x : Float). Some (real x q)) (written_same s m p q few short long fit),
    )

-- of any double that fits, the field is read as a double that is written as the same field
pub real-again : (q : ℕ) (x : Float) (s : Bool) (n w : ℕ) → q ≤ 9 → rounded_to q x ≡ Some (rounded s n) → length (fixed q s n) ≤ w → w ≤ 10
    → (real_of (right w (fixed q s n)) ≡ Some (real (double_of s n q) q)) × (rounded_to q (double_of s n q) ≡ Some (rounded s n))
real-again q x s n w long e h k =
    (real-is (right w (fixed q s n)) (fixed-read q s n (places-few q x s n e) w h k), places-again q x s n long e)
