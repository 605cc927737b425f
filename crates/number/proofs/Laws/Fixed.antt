-- Laws of the quick reading: what a word says is what its text says.
--     eight_said, six-said     a plain decimal of eight columns, and of six
--     four-said, five_said     a signed number of four columns, and an unsigned one of five
-- Assumes nothing.
use Prim.Native.Nat.{ℕ, zero, suc, ◌+◌, ◌*◌, ◌/◌, ◌^◌, ◌≤◌, ◌<◌}
use mathlib.Core.Path.{◌≡◌, refl, sym, ap, ◌∙◌}
use mathlib.Core.Bool.{Bool, true, false, and-false}
use mathlib.Core.List.{List, [], ◌∷◌, ◌++◌, append_assoc, append-nil}
use native.Mathlib.Omega.{arith}
use borrow.Author.Tests.{lt-leb, leb-true, ne_eqb}
use lib.ListN.{length, take, drop, length-append, length-take, length-drop, take-append-drop}
use lib.Seq.{take_all}
use lib.Dec.{eqb, leb}
use Rattle.std.specs.Prelude.{Some}
use Rattle.number.specs.Trim.{white, leading, kept, end_trimmed, trimmed}
use Rattle.number.specs.Whole.{digit, digits, value_from, value_of, most, with_sign, unsigned_of, signed_of}
use Rattle.number.specs.Decimal.{plain, decimal_of}
use Rattle.number.specs.Grammar.{Plus, Sign, Fraction}
use Rattle.number.specs.Word.{behind_blanks, behind_sign, none, code_of, minus_in, front_in, behind_in, eight_of, six_of, four_of, five_of, zeros}
use Rattle.number.proofs.Laws.Choice.{and_left, and_right, and_both}
use Rattle.number.proofs.Laws.Digits.{digits_append, value-append}
use Rattle.number.proofs.Laws.Trim.{trimmed-le}
use Rattle.number.proofs.Laws.Grammar.{unsigned-read, signed-read, decimal-read}
use Rattle.number.proofs.Laws.Shape.{filled-said}

-- ---- a text without white bytes behind blanks: trim leaves it
abbrev Black : List ℕ → Type 0
Black [] = Unit {0}
Black (b ∷ t) = (white b ≡ false) × Black t

digit_black : (b : ℕ) → digit b ≡ true → white b ≡ false
unfolding digit white
digit_black b e =
    let h = leb-true 48 b (and_left (leb 48 b) (leb b 57) e) in
    rw (ne_eqb b 32 (λ q. omega arith), lt-leb b 13 (omega arith)) (and-false (leb 9 b))

digits_black : (d : List ℕ) → digits d ≡ true → Black d
unfolding digits
digits_black [] e = tt
digits_black (b ∷ d) e = (digit_black b (and_left (digit b) (digits d) e), digits_black d (and_right (digit b) (digits d) e))

black_append : (s t : List ℕ) → Black s → Black t → Black (s ++ t)
black_append [] t h l = l
black_append (b ∷ s) t (h, k) l = (h, black_append s t k l)

black_leading : (t : List ℕ) → Black t → leading t ≡ 0
unfolding leading
black_leading [] h = refl
black_leading (b ∷ t) (h, l) = rw h refl

black_kept : (t : List ℕ) → Black t → kept t ≡ length t
unfolding kept
black_kept [] h = refl
black_kept (b ∷ t) (h, l) = rw h (ap suc (black_kept t l))

trimmed_black : (n : ℕ) (t : List ℕ) → Black t → trimmed (behind_blanks n t) ≡ t
unfolding trimmed end_trimmed leading white
trimmed_black zero t h = rw (black_leading t h, black_kept t h) (take_all (length t) t (omega arith))
trimmed_black (suc n) t h = trimmed_black n t h

-- ---- signs
abbrev sign_of : Bool → List ℕ
sign_of false = []
sign_of true = 45 ∷ []

is-sign : (minus : Bool) → Sign minus (sign_of minus)
is-sign false = Sign.unsigned
is-sign true = Sign.minus

signed_as_lem : (minus : Bool) (t : List ℕ) → behind_sign minus t ≡ sign_of minus ++ t
signed_as_lem false t = refl
signed_as_lem true t = refl

sign_black : (minus : Bool) (t : List ℕ) → Black t → Black (sign_of minus ++ t)
unfolding white
sign_black false t h = h
sign_black true t h = (refl, h)

behind-blanks : (n : ℕ) (t u : List ℕ) → behind_blanks n t ++ u ≡ behind_blanks n (t ++ u)
behind-blanks zero t u = refl
behind-blanks (suc n) t u = ap (λ (l : List ℕ). 32 ∷ l) (behind-blanks n t u)

-- a text behind blanks and a sign, with another behind it
trimmed_as : (t d u : List ℕ) (n : ℕ) (minus : Bool) → t ≡ behind_blanks n (behind_sign minus d) ++ u → Black (d ++ u) → trimmed t ≡ sign_of minus ++ (d ++ u)
trimmed_as t d u n minus e h =
    ap trimmed (e ∙ behind-blanks n (behind_sign minus d) u ∙ ap (λ (l : List ℕ). behind_blanks n (l ++ u)) (signed_as_lem minus d)
    ∙ ap (behind_blanks n) (append_assoc (sign_of minus) d u))
    ∙ trimmed_black n (sign_of minus ++ (d ++ u)) (sign_black minus (d ++ u) h)

-- ---- decimals
point_black : (v : List ℕ) → digits v ≡ true → Black (46 ∷ v)
unfolding white
point_black v e = (refl, digits_black v e)

plain-said : (t d v : List ℕ) (n : ℕ) (minus : Bool) → t ≡ behind_blanks n (behind_sign minus d) ++ 46 ∷ v → digits d ≡ true → digits v ≡ true
    → 0 < length v → length t ≤ 10 → decimal_of t ≡ Some (plain minus (value_from (value_of d) v) (length v))
plain-said t d v n minus text x y some short =
    decimal-read (record {
      plain = record {
        sign = sign_of minus;
        front = d;
        tail = 46 ∷ v;
        behind = v;
        signed = is-sign minus;
        fraction = Fraction.point v;
        text = trimmed_as t d (46 ∷ v) n minus text (black_append d (46 ∷ v) (digits_black d x) (point_black v y))
            ∙ sym (append_assoc (sign_of minus) d (46 ∷ v));
        some = simp length-append (omega arith);
        each = digits_append d v ∙ and_both x y;
        value = sym (value-append d v 0);
        places = refl;
      };
      width = omega (arith, trimmed-le t);
    })

-- three digits behind those that said m
three-value : (m : ℕ) (v : List ℕ) → length v ≡ 3 → digits v ≡ true → value_from m v ≡ m * 1000 + value_of v
unfolding value_from
three-value m [] e y = absurd (omega arith)
three-value m (a ∷ []) e y = absurd (omega arith)
three-value m (a ∷ b ∷ []) e y = absurd (omega arith)
three-value m (a ∷ b ∷ c ∷ []) e y = omega arith
three-value m (a ∷ b ∷ c ∷ d ∷ v) e y = absurd (omega arith)

pub eight_said : (t : List ℕ) → let c = code_of (eight_of t) in eqb c none ≡ false → decimal_of t ≡ Some (plain (minus_in c) (front_in c * 1000 + behind_in c) 3)
eight_said t n =
    let (long, h) = filled-said 8 t t (λ e. e) n in
    let v = h.behind in
    plain-said t h.front v h.blanks (minus_in (code_of (eight_of t))) h.text h.each h.each_behind (omega (arith, h.three)) (omega arith)
    ∙ rw (three-value (value_of h.front) v h.three h.each_behind, h.value, h.value_behind, h.three) refl

-- ---- two texts with as much behind each
append-same : (s t u v : List ℕ) → length u ≡ length v → s ++ u ≡ t ++ v → (s ≡ t) × (u ≡ v)
append-same [] [] u v l e = (refl, e)
append-same [] (y ∷ t) u v l e = absurd (omega (arith, ap length e, length-append t v))
append-same (x ∷ s) [] u v l e = absurd (omega (arith, ap length e, length-append s u))
append-same (x ∷ s) (y ∷ t) u v l e =
    let h : x ≡ y = cc in
    let r : s ++ u ≡ t ++ v = cc in
    let (p, q) = append-same s t u v l r in
    (rw (h, p) refl, q)

decimal-blank : (t : List ℕ) → decimal_of t ≡ decimal_of (32 ∷ t)
unfolding decimal_of trimmed leading white
decimal-blank t = refl

-- a zero behind two digits
two-value : (m a b : ℕ) → value_from m (a ∷ b ∷ []) ≡ m * 100 + value_of (a ∷ b ∷ 48 ∷ []) / 10
unfolding value_from
two-value m a b = omega arith

module _ (t d : List ℕ) (n : ℕ) (minus : Bool) (long : length t ≡ 6) (x : digits d ≡ true) where
  six-plain : (v : List ℕ) → 32 ∷ t ++ 48 ∷ [] ≡ behind_blanks n (behind_sign minus d) ++ 46 ∷ v → length v ≡ 3 → digits v ≡ true
      → decimal_of t ≡ Some (plain minus (value_of d * 100 + value_of v / 10) 2)
  six-plain [] e three y = absurd (omega arith)
  six-plain (a ∷ []) e three y = absurd (omega arith)
  six-plain (a ∷ b ∷ []) e three y = absurd (omega arith)
  six-plain (a ∷ b ∷ z ∷ []) e three y =
      let front = behind_blanks n (behind_sign minus d) in
      let (p, q) =
      append-same (32 ∷ t) (front ++ 46 ∷ a ∷ b ∷ []) (48 ∷ []) (z ∷ []) refl (e ∙ sym (append_assoc front (46 ∷ a ∷ b ∷ []) (z ∷ []))) in
      let zero' : 48 ≡ z = cc in
      let two = and_left (digits (a ∷ b ∷ [])) (digits (z ∷ [])) (sym (digits_append (a ∷ b ∷ []) (z ∷ [])) ∙ y) in
      decimal-blank t
      ∙ plain-said (32 ∷ t) d (a ∷ b ∷ []) n minus p x two (omega arith) (omega arith)
      ∙ rw (← zero', two-value (value_of d) a b) refl
  six-plain (a ∷ b ∷ z ∷ w ∷ v) e three y = absurd (omega arith)

pub six-said : (t : List ℕ) → let c = code_of (six_of t) in eqb c none ≡ false → decimal_of t ≡ Some (plain (minus_in c) (front_in c * 100 + behind_in c / 10) 2)
six-said t n =
    let (long, h) = filled-said 6 t (32 ∷ t ++ 48 ∷ []) (λ e. simp length-append (omega arith)) n in
    six-plain t h.front h.blanks (minus_in (code_of (six_of t))) long h.each h.behind h.text h.three h.each_behind
    ∙ rw (h.value, h.value_behind) refl

-- ---- whole numbers
most-of : (minus : Bool) (n : ℕ) → n < 65536 → n ≤ most minus
most-of false n h = omega arith
most-of true n h = omega arith

pub four-said : (t : List ℕ) → let c = code_of (four_of t) in eqb c none ≡ false → signed_of t ≡ Some (with_sign (minus_in c) (front_in c))
four-said t n =
    let c = code_of (four_of t) in
    let (long, h) = filled-said 4 t (t ++ 46 ∷ zeros 3) (λ e. simp length-append (omega arith)) n in
    let d = h.front in
    let front = (append-same t (behind_blanks h.blanks (behind_sign (minus_in c) d)) (46 ∷ zeros 3) (46 ∷ h.behind) (omega (arith, h.three)) h.text).0 in
    let text = trimmed_as t d [] h.blanks (minus_in c) (front ∙ sym (append-nil (behind_blanks h.blanks (behind_sign (minus_in c) d)))) (black_append d [] (digits_black d h.each) tt) in
    signed-read (record {
      is_minus = minus_in c;
      sign = sign_of (minus_in c);
      digs = d;
      signed = is-sign (minus_in c);
      text = text ∙ ap (λ (l : List ℕ). sign_of (minus_in c) ++ l) (append-nil d);
      some = h.some;
      each = h.each;
      value = ap (with_sign (minus_in c)) (sym h.value);
      limit = rw h.value (most-of (minus_in c) (front_in c) (omega arith));
    })

-- two zeros behind a digit
last-value : (m x : ℕ) → m * 10 + value_of (x ∷ 48 ∷ 48 ∷ []) / 100 ≡ value_from m (x ∷ [])
unfolding value_from
last-value m x = omega arith

module _ (t d v : List ℕ) (n : ℕ) (long : length t ≡ 5) (each : digits d ≡ true) (three : length v ≡ 3) (each' : digits v ≡ true) where
  five_plain : (u : List ℕ) → length u ≡ 1 → t ≡ behind_blanks n d ++ u → u ++ 48 ∷ 48 ∷ [] ≡ v → value_of d * 10 + value_of v / 100 < 2 ^ 64
      → unsigned_of t ≡ Some (value_of d * 10 + value_of v / 100)
  five_plain [] l e q small = absurd (omega arith)
  five_plain (x ∷ []) l e q small =
      let last = and_left (digits (x ∷ [])) (digits (48 ∷ 48 ∷ [])) (sym (digits_append (x ∷ []) (48 ∷ 48 ∷ [])) ∙ ap digits q ∙ each') in
      unsigned-read (record {
        sign = [];
        digs = d ++ x ∷ [];
        plus = Plus.none;
        text = trimmed_as t d (x ∷ []) n false e (black_append d (x ∷ []) (digits_black d each) (digits_black (x ∷ []) last));
        some = simp length-append (omega arith);
        each = digits_append d (x ∷ []) ∙ and_both each last;
        value = rw (← q) (last-value (value_of d) x) ∙ sym (value-append d (x ∷ []) 0);
        limit = small;
      })
  five_plain (x ∷ y ∷ u) l e q small = absurd (omega arith)

pub five_said : (t : List ℕ) → let c = code_of (five_of t) in eqb c none ≡ false → minus_in c ≡ false → unsigned_of t ≡ Some (front_in c * 10 + behind_in c / 100)
five_said t n plus =
    let c = code_of (five_of t) in
    let (long, h) =
    filled-said 5 t (take 4 t ++ 46 ∷ (drop 4 t ++ 48 ∷ 48 ∷ [])) (λ e. simp (length-append, length-take, length-drop) (omega arith)) n in
    let d = h.front in
    let v = h.behind in
    let u = drop 4 t in
    let one : length u ≡ 1 = simp length-drop (omega arith) in
    let text = rw plus at h.text in
    let (p, q) =
    append-same (take 4 t) (behind_blanks h.blanks d) (46 ∷ (u ++ 48 ∷ 48 ∷ [])) (46 ∷ v) (simp length-append (omega (arith, h.three))) text in
    let r : u ++ 48 ∷ 48 ∷ [] ≡ v = cc in
    let parts = sym (take-append-drop 4 t) ∙ ap (λ (l : List ℕ). l ++ u) p in
    let small : value_of d * 10 + value_of v / 100 < 2 ^ 64 = rw (h.value, h.value_behind) (omega arith) in
    five_plain t d v h.blanks long h.each h.three h.each_behind u one parts r small ∙ rw (h.value, h.value_behind) refl
