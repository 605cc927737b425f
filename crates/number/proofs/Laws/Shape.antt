-- Laws of words of eight bytes, and of what is read of them.
--     front-is, last-front     every guess has a front of four bytes
--     value-fits, sum_fits, over-fits              what is added up has room
--     code_first, -second, -minus, -plus           what is read, by the tests
--     word-said                a word that passes the two tests is blanks, a minus or none, digits, a point and three digits
--     filled-said              the same of a text that is filled up to a word
--     filled_is, filled_not    that word, by the test of the length
-- Assumes nothing.
use Prim.Native.Nat.{ℕ, zero, suc, ◌+◌, ◌*◌, ◌/◌, ◌%◌, ◌^◌, ◌≤◌, ◌<◌}
use mathlib.Core.Path.{◌≡◌, refl, sym, ap, ◌∙◌}
use mathlib.Core.Bool.{Bool, true, false, cond}
use mathlib.Core.List.{List, [], ◌∷◌, ◌++◌}
use native.Mathlib.Omega.{arith}
use borrow.Author.Tests.{eqb-true, eq-eqb, ne_eqb, le-leb, lt-leb}
use lib.ListN.{length, take, drop, get_or, drop_of_length-le, take-append-drop, length-append, length-take, length-drop, get_or-eq_default}
use lib.Seq.{drop-cons}
use lib.Dec.{eqb, lit<}
use lib.Bits.{bit_and, bit_xor, and_le_r}
use Rattle.number.specs.Whole.{digits, joined, value_from, value_of}
use Rattle.number.specs.Word.{word_of, bytes, held_of, behind_blanks, behind_sign, zeros, shape_bytes, fronts, front_of, slacks, guess_of}
use Rattle.number.specs.Word.{packed_of, bytes_in, slack_in, minus_of, fours_of, low, none, signed_as, code_by, code_of}
use Rattle.number.specs.Word.{minus_in, front_in, behind_in, filled_of}
use Rattle.number.proofs.Laws.Choice.{and_both, clash}
use Rattle.number.proofs.Laws.Digits.{digit_yes}
use Rattle.number.proofs.Laws.Word.{Bytes, Low, Nines, xors, sums, places_from, word_xor, word_sum, word_low, word_below, highs_eight}
use Rattle.number.proofs.Laws.Word.{xors-bytes, xors-long, xors-append, sums-bytes, sums-long, bytes-each, same, digit-over}
use Rattle.number.proofs.Laws.Word.{nines_word, fours-front, fours-behind, bytes_at, bytes_are, bytes-long, bytes_word}

-- ---- the fronts
-- a point and three digits
abbrev tail : List ℕ
tail = 46 ∷ zeros 3

-- a front is what some blanks, a minus or none, and some digits are, four in all, and its number has them with the point and the digits behind
abbrev pub Shaped : List ℕ → Type 0
Shaped s =
    (n : ℕ) × (minus : Bool) × (k : ℕ) × (s ≡ shape_bytes n minus (suc k)) × (length s ≡ 4)
    × (bytes_in (packed_of s) ≡ word_of (s ++ tail)) × (slack_in (packed_of s) ≡ word_of (slacks (s ++ tail))) × (minus_of (packed_of s) ≡ minus)

pub front-is : (g : ℕ) → Shaped (front_of g)
front-is zero = (0, false, 3, refl, refl, refl, refl, refl)
front-is (suc zero) = (0, true, 2, refl, refl, refl, refl, refl)
front-is (suc (suc zero)) = (1, false, 2, refl, refl, refl, refl, refl)
front-is (suc (suc (suc zero))) = (0, true, 2, refl, refl, refl, refl, refl)
front-is (suc (suc (suc (suc zero)))) = (2, false, 1, refl, refl, refl, refl, refl)
front-is (suc (suc (suc (suc (suc zero))))) = (1, true, 1, refl, refl, refl, refl, refl)
front-is (suc (suc (suc (suc (suc (suc zero)))))) = (3, false, 0, refl, refl, refl, refl, refl)
front-is (suc (suc (suc (suc (suc (suc (suc g))))))) = (2, true, 0, refl, refl, refl, refl, refl)

pub last-front : (g : ℕ) → 7 ≤ g → shape_bytes 2 true 1 ≡ front_of g
last-front g h = sym (get_or-eq_default fronts (shape_bytes 2 true 1) h)

zeros-bytes : (k : ℕ) → Bytes (zeros k)
zeros-bytes zero = tt
zeros-bytes (suc k) = (lit< tt, zeros-bytes k)

signed-bytes : (minus : Bool) (k : ℕ) → Bytes (behind_sign minus (zeros k))
signed-bytes false k = zeros-bytes k
signed-bytes true k = (lit< tt, zeros-bytes k)

shape_bytes_lem : (n : ℕ) (minus : Bool) (k : ℕ) → Bytes (shape_bytes n minus k)
shape_bytes_lem zero minus k = signed-bytes minus k
shape_bytes_lem (suc n) minus k = (lit< tt, shape_bytes_lem n minus k)

bytes-append : (t u : List ℕ) → Bytes t → Bytes u → Bytes (t ++ u)
bytes-append [] u h l = l
bytes-append (b ∷ t) u (h, k) l = (h, bytes-append t u k l)

slacks-low : (t : List ℕ) → Low (slacks t)
slacks-low [] = tt
slacks-low (b ∷ t) = (go (eqb b 48), slacks-low t)
  where
    go : (p : Bool) → cond p 118 127 < 128
    go true = lit< tt
    go false = lit< tt

slacks-long : (t : List ℕ) → length (slacks t) ≡ length t
slacks-long [] = refl
slacks-long (b ∷ t) = ap suc (slacks-long t)

-- ---- bytes that lie no higher above a shape than they may
abbrev Within : List ℕ → List ℕ → Type 0
Within t u = Low (sums (xors t u) (slacks u))

within_nines : (t u : List ℕ) → Within t u → Nines (xors t u)
within_nines [] u h = tt
within_nines (b ∷ t) [] h = tt
within_nines (b ∷ t) (c ∷ u) (h, l) = (go (eqb c 48) h, within_nines t u l)
  where
    go : (p : Bool) → bit_xor b c + cond p 118 127 < 128 → bit_xor b c ≤ 9
    go true h = omega arith
    go false h = omega arith

within-parts : (s t u v : List ℕ) → length s ≡ length u → Within (s ++ t) (u ++ v) → Within s u × Within t v
within-parts [] t [] v e h = (tt, h)
within-parts [] t (c ∷ u) v e h = absurd (omega arith)
within-parts (b ∷ s) t [] v e h = absurd (omega arith)
within-parts (b ∷ s) t (c ∷ u) v e (h, l) = let (p, q) = within-parts s t u v (omega arith) l in ((h, p), q)

within-digits : (t : List ℕ) (k m : ℕ) → length t ≡ length (zeros k) → Within t (zeros k)
    → (digits t ≡ true) × (value_from m t ≡ places_from m (xors t (zeros k)))
unfolding digits value_from
within-digits [] k m e h = (refl, refl)
within-digits (b ∷ t) zero m e h = absurd (omega arith)
within-digits (b ∷ t) (suc k) m e (h, l) =
    let over = digit-over b (omega arith) in
    let place : joined m b ≡ m * 10 + bit_xor b 48 = omega arith in
    let (d, v) = within-digits t k (joined m b) (omega arith) l in
    (and_both (digit_yes b (omega arith) (omega arith)) d, v ∙ ap (λ (x : ℕ). places_from x (xors t (zeros k))) place)

-- what the bytes t of a front u are
abbrev Read : ℕ → Bool → List ℕ → List ℕ → ℕ → Type 0
Read n minus t u k =
    (d : List ℕ) × (t ≡ behind_blanks n (behind_sign minus d)) × (digits d ≡ true) × (value_of d ≡ places_from 0 (xors t u)) × (length d ≡ k)

zeros-long : (k : ℕ) → length (zeros k) ≡ k
zeros-long zero = refl
zeros-long (suc k) = ap suc (zeros-long k)

within-sign : (minus : Bool) (t : List ℕ) (k : ℕ) → length t ≡ length (behind_sign minus (zeros k)) → Within t (behind_sign minus (zeros k))
    → Read 0 minus t (behind_sign minus (zeros k)) k
within-sign false t k e h = let (d, v) = within-digits t k 0 e h in (t, refl, d, v, e ∙ zeros-long k)
within-sign true [] k e h = absurd (omega arith)
within-sign true (b ∷ t) k e (h, l) =
    let none : bit_xor b 45 ≡ 0 = omega arith in
    let long : length t ≡ length (zeros k) = omega arith in
    let (d, v) = within-digits t k 0 long l in (
      t,
      ap (λ (x : ℕ). x ∷ t) (same b 45 none),
      d,
      v ∙ ap (λ (x : ℕ). places_from x (xors t (zeros k))) (omega arith),
      long ∙ zeros-long k,
    )

within_shape : (n : ℕ) (minus : Bool) (t : List ℕ) (k : ℕ) → length t ≡ length (shape_bytes n minus k) → Within t (shape_bytes n minus k)
    → Read n minus t (shape_bytes n minus k) k
within_shape zero minus t k e h = within-sign minus t k e h
within_shape (suc n) minus [] k e h = absurd (omega arith)
within_shape (suc n) minus (b ∷ t) k e (h, l) =
    let none : bit_xor b 32 ≡ 0 = omega arith in
    let (d, i, f, v, long) = within_shape n minus t k (omega arith) l in
    let is = ap (λ (x : ℕ). x ∷ t) (same b 32 none) ∙ ap (λ (u : List ℕ). 32 ∷ u) i in
    (d, is, f, v ∙ ap (λ (x : ℕ). places_from x (xors t (shape_bytes n minus k))) (omega arith), long)

within-tail : (t : List ℕ) → length t ≡ 4 → Within t tail
    → (v : List ℕ) × (t ≡ 46 ∷ v) × (length v ≡ 3) × (digits v ≡ true) × (value_of v ≡ places_from 0 (xors t tail))
within-tail [] e h = absurd (omega arith)
within-tail (b ∷ t) e (h, l) =
    let none : bit_xor b 46 ≡ 0 = omega arith in
    let (d, v) = within-digits t 3 0 (omega arith) l in (
      t,
      ap (λ (x : ℕ). x ∷ t) (same b 46 none),
      omega arith,
      d,
      v ∙ ap (λ (x : ℕ). places_from x (xors t (zeros 3))) (omega arith),
    )

-- ---- the number of the digits
joined-fours : (p q : List ℕ) → length p ≡ 4 → length q ≡ 4 → Nines (p ++ q)
    → (front_in (fours_of (word_of (p ++ q))) ≡ places_from 0 p) × (behind_in (fours_of (word_of (p ++ q))) ≡ places_from 0 q)
joined-fours (a ∷ b ∷ c ∷ d ∷ []) (e ∷ f ∷ g ∷ h ∷ []) i j n = (fours-front a b c d e f g h n, fours-behind a b c d e f g h n)
joined-fours [] q i j n = absurd (omega arith)
joined-fours (a ∷ []) q i j n = absurd (omega arith)
joined-fours (a ∷ b ∷ []) q i j n = absurd (omega arith)
joined-fours (a ∷ b ∷ c ∷ []) q i j n = absurd (omega arith)
joined-fours (a ∷ b ∷ c ∷ d ∷ x ∷ p) q i j n = absurd (omega arith)
joined-fours (a ∷ b ∷ c ∷ d ∷ []) [] i j n = absurd (omega arith)
joined-fours (a ∷ b ∷ c ∷ d ∷ []) (e ∷ []) i j n = absurd (omega arith)
joined-fours (a ∷ b ∷ c ∷ d ∷ []) (e ∷ f ∷ []) i j n = absurd (omega arith)
joined-fours (a ∷ b ∷ c ∷ d ∷ []) (e ∷ f ∷ g ∷ []) i j n = absurd (omega arith)
joined-fours (a ∷ b ∷ c ∷ d ∷ []) (e ∷ f ∷ g ∷ h ∷ x ∷ q) i j n = absurd (omega arith)

fours-below : (w : ℕ) → fours_of w < 2 ^ 63
fours-below w = omega (arith, and_le_r (w * 10 + w / 256) 0x00ff_00ff_00ff_00ff)

pub value-fits : (n w : ℕ) → n ≡ fours_of w → n < 2 ^ 63
value-fits n w e = rw e (fours-below w)

signed_in_lem : (minus : Bool) (n : ℕ) → n < 2 ^ 63
    → (minus_in (signed_as minus n) ≡ minus) × (front_in (signed_as minus n) ≡ front_in n) × (behind_in (signed_as minus n) ≡ behind_in n)
signed_in_lem false n h = (lt-leb (2 ^ 63) n h, refl, refl)
signed_in_lem true n h = (le-leb (2 ^ 63) (n + 2 ^ 63) (omega arith), omega arith, omega arith)

-- ---- what a word says
pub record SaysWord (t : List ℕ) (c : ℕ) : Type 0 where
  pub blanks : ℕ
  pub front : List ℕ
  pub behind : List ℕ
  pub text : t ≡ behind_blanks blanks (behind_sign (minus_in c) front) ++ 46 ∷ behind
  pub some : 0 < length front
  pub each : digits front ≡ true
  pub value : value_of front ≡ front_in c
  pub three : length behind ≡ 3
  pub each_behind : digits behind ≡ true
  pub value_behind : value_of behind ≡ behind_in c

-- ---- the tests of eight bytes at once, by a front
module _ (t s : List ℕ) (e : length t ≡ 8) (b : Bytes t) (shaped : Shaped s) where
  abbrev whole : List ℕ
  whole = s ++ tail

  abbrev over : ℕ
  over = bit_xor (word_of t) (bytes_in (packed_of s))

  four : length s ≡ 4
  four = shaped.4

  whole-bytes : Bytes whole
  whole-bytes =
      bytes-append s tail (rw shaped.3 (shape_bytes_lem shaped.0 shaped.1 (suc shaped.2))) (lit< tt, (lit< tt, (lit< tt, (lit< tt, tt))))

  whole_long : length whole ≡ 8
  whole_long = length-append s tail ∙ ap (λ (k : ℕ). k + 4) four

  same-long : length t ≡ length whole
  same-long = e ∙ sym whole_long

  over-is : over ≡ word_of (xors t whole)
  over-is = ap (bit_xor (word_of t)) shaped.5 ∙ word_xor t whole same-long b whole-bytes

  over-long : length (xors t whole) ≡ 8
  over-long = xors-long t whole same-long ∙ e

  slack_long : length (slacks whole) ≡ 8
  slack_long = slacks-long whole ∙ whole_long

  both_long : length (xors t whole) ≡ length (slacks whole)
  both_long = over-long ∙ sym slack_long

  sum_is : over + slack_in (packed_of s) ≡ word_of (sums (xors t whole) (slacks whole))
  sum_is = rw (over-is, shaped.6) (word_sum (xors t whole) (slacks whole) both_long)

  lows : bit_and over 0x8080_8080_8080_8080 ≡ 0 → Low (xors t whole)
  lows p =
      word_low (xors t whole) (xors-bytes t whole b whole-bytes)
      (ap (bit_and (word_of (xors t whole))) (highs_eight (xors t whole) over-long) ∙ ap (λ (x : ℕ). bit_and x 0x8080_8080_8080_8080) (sym over-is) ∙ p)

  sum-bytes : bit_and over 0x8080_8080_8080_8080 ≡ 0 → Bytes (sums (xors t whole) (slacks whole))
  sum-bytes p = sums-bytes (xors t whole) (slacks whole) (lows p) (slacks-low whole)

  sum_room : bit_and over 0x8080_8080_8080_8080 ≡ 0 → over + slack_in (packed_of s) < 2 ^ 64
  sum_room p =
      let long : length (sums (xors t whole) (slacks whole)) ≡ 8 = sums-long (xors t whole) (slacks whole) both_long ∙ over-long in
      rw sum_is (rw long at (word_below (sums (xors t whole) (slacks whole)) (sum-bytes p)))

  within : bit_and over 0x8080_8080_8080_8080 ≡ 0 → bit_and (over + slack_in (packed_of s)) 0x8080_8080_8080_8080 ≡ 0 → Within t whole
  within p q =
      let u = sums (xors t whole) (slacks whole) in
      let long : length u ≡ 8 = sums-long (xors t whole) (slacks whole) both_long ∙ over-long in
      word_low u (sum-bytes p)
      (ap (bit_and (word_of u)) (highs_eight u long) ∙ ap (λ (x : ℕ). bit_and x 0x8080_8080_8080_8080) (sym sum_is) ∙ q)

  over-room : bit_and over 0x8080_8080_8080_8080 ≡ 0 → bit_and (over + slack_in (packed_of s)) 0x8080_8080_8080_8080 ≡ 0 → over * 28 < 2 ^ 64
  over-room p q = rw over-is (rw over-long at (nines_word (xors t whole) (within_nines t whole (within p q))))

  said : bit_and over 0x8080_8080_8080_8080 ≡ 0 → bit_and (over + slack_in (packed_of s)) 0x8080_8080_8080_8080 ≡ 0
      → SaysWord t (signed_as (minus_of (packed_of s)) (fours_of over))
  said p q =
      let x = take 4 t in
      let y = drop 4 t in
      let parts = sym (take-append-drop 4 t) in
      let long : length x ≡ 4 = simp length-take (omega arith) in
      let rest : length y ≡ 4 = simp length-drop (omega arith) in
      let inside = within p q in
      let (h, l) = within-parts x y s tail (long ∙ sym four) (rw (take-append-drop 4 t) inside) in
      let (d, is, each, value, many) =
      within_shape shaped.0 shaped.1 x (suc shaped.2) (long ∙ sym four ∙ ap length shaped.3) (rw shaped.3 at h) in
      let (v, is', three, each', value') = within-tail y rest l in
      let fours = ap (λ (u : List ℕ). xors u whole) parts ∙ xors-append x y s tail (long ∙ sym four) in
      let nines = rw fours at (within_nines t whole inside) in
      let p' = xors x s in
      let q' = xors y tail in
      let (i, j) = joined-fours p' q' (xors-long x s (long ∙ sym four) ∙ long) (xors-long y tail rest ∙ rest) nines in
      let n = fours_of over in
      let is-n : n ≡ fours_of (word_of (p' ++ q')) = ap fours_of (over-is ∙ ap word_of fours) in
      let (minus, front, behind) = signed_in_lem (minus_of (packed_of s)) n (fours-below over) in
      record {
        blanks = shaped.0;
        front = d;
        behind = v;
        text = parts ∙ rw (minus, shaped.7, ← is, ← is') refl;
        some = rw many (omega arith);
        each = each;
        value = value ∙ ap (λ (u : List ℕ). places_from 0 (xors x u)) (sym shaped.3) ∙ sym i ∙ ap front_in (sym is-n) ∙ sym front;
        three = three;
        each_behind = each';
        value_behind = value' ∙ sym j ∙ ap behind_in (sym is-n) ∙ sym behind;
      }

  by_front : eqb (code_by (packed_of s) over) none ≡ false → SaysWord t (code_by (packed_of s) over)
  by_front = go (low over) (low (over + slack_in (packed_of s))) refl refl
    where
      c : ℕ
      c = signed_as (minus_of (packed_of s)) (fours_of over)

      go : (x y : Bool) → low over ≡ x → low (over + slack_in (packed_of s)) ≡ y
          → eqb (cond x (cond y c none) none) none ≡ false → SaysWord t (cond x (cond y c none) none)
      go true true p q n = said (eqb-true _ _ p) (eqb-true _ _ q)
      go true false p q n = absurd (clash refl n)
      go false y p q n = absurd (clash refl n)

-- the room of any number, by its bytes
module _ (w g p : ℕ) (is : p ≡ packed_of (front_of g)) (h : w < 2 ^ 64) where
  pub sum_fits : bit_and (bit_xor w (bytes_in p)) 0x8080_8080_8080_8080 ≡ 0 → bit_xor w (bytes_in p) + slack_in p < 2 ^ 64
  sum_fits = rw is (go (bytes_at 8 w) (bytes_word 8 w h) (bytes-long 8 w) (bytes_are 8 w))
    where
      go : (t : List ℕ) → word_of t ≡ w → length t ≡ 8 → Bytes t → let q = packed_of (front_of g) in
          bit_and (bit_xor w (bytes_in q)) 0x8080_8080_8080_8080 ≡ 0 → bit_xor w (bytes_in q) + slack_in q < 2 ^ 64
      go t e long b = rw (← e) (sum_room t (front_of g) long b (front-is g))

  pub over-fits : bit_and (bit_xor w (bytes_in p)) 0x8080_8080_8080_8080 ≡ 0 → bit_and (bit_xor w (bytes_in p) + slack_in p) 0x8080_8080_8080_8080 ≡ 0
      → bit_xor w (bytes_in p) * 28 < 2 ^ 64
  over-fits = rw is (go (bytes_at 8 w) (bytes_word 8 w h) (bytes-long 8 w) (bytes_are 8 w))
    where
      go : (t : List ℕ) → word_of t ≡ w → length t ≡ 8 → Bytes t → let q = packed_of (front_of g) in
          bit_and (bit_xor w (bytes_in q)) 0x8080_8080_8080_8080 ≡ 0 → bit_and (bit_xor w (bytes_in q) + slack_in q) 0x8080_8080_8080_8080 ≡ 0
          → bit_xor w (bytes_in q) * 28 < 2 ^ 64
      go t e long b = rw (← e) (over-room t (front_of g) long b (front-is g))

  -- what is read, by the tests
  module _ (guessed : g ≡ guess_of (w % 0x1_0000_0000)) where
    same_code : code_by p (bit_xor w (bytes_in p)) ≡ code_of w
    unfolding code_of
    same_code = ap (λ (q : ℕ). code_by q (bit_xor w (bytes_in q))) (is ∙ ap (λ (k : ℕ). packed_of (front_of k)) guessed)

    pub code_first : (bit_and (bit_xor w (bytes_in p)) 0x8080_8080_8080_8080 ≡ 0 → ⊥) → none ≡ code_of w
    code_first n = rw (ne_eqb _ _ n) at same_code

    pub code_second : bit_and (bit_xor w (bytes_in p)) 0x8080_8080_8080_8080 ≡ 0
        → (bit_and (bit_xor w (bytes_in p) + slack_in p) 0x8080_8080_8080_8080 ≡ 0 → ⊥) → none ≡ code_of w
    code_second e n = rw (eq-eqb _ _ e, ne_eqb _ _ n) at same_code

    module _ (e : bit_and (bit_xor w (bytes_in p)) 0x8080_8080_8080_8080 ≡ 0) (f : bit_and (bit_xor w (bytes_in p) + slack_in p) 0x8080_8080_8080_8080 ≡ 0) where
      code_both : signed_as (minus_of p) (fours_of (bit_xor w (bytes_in p))) ≡ code_of w
      code_both = rw (eq-eqb _ _ e, eq-eqb _ _ f) at same_code

      pub code_minus : (bit_and (bytes_in p) 0x0101_0101 ≡ 0 → ⊥) → fours_of (bit_xor w (bytes_in p)) + 2 ^ 63 ≡ code_of w
      code_minus n = rw (ne_eqb _ _ n) at code_both

      pub code_plus : bit_and (bytes_in p) 0x0101_0101 ≡ 0 → fours_of (bit_xor w (bytes_in p)) ≡ code_of w
      code_plus n = rw (eq-eqb _ _ n) at code_both

pub word-said : (t : List ℕ) → length t ≡ 8 → Bytes t → eqb (code_of (word_of t)) none ≡ false → SaysWord t (code_of (word_of t))
unfolding code_of
word-said t e b n = let g = guess_of (word_of t % 0x1_0000_0000) in by_front t (front_of g) e b (front-is g) n

-- ---- texts that are filled up
-- n bytes of a text from the place i on, each by itself
abbrev spell : ℕ → ℕ → List ℕ → List ℕ
spell zero i t = []
spell (suc n) i t = get_or t i 0 ∷ spell n (suc i) t

spelled : (n i : ℕ) (t : List ℕ) → length t ≡ i + n → spell n i t ≡ drop i t
spelled zero i t e = sym (drop_of_length-le t {i = i} (omega arith))
spelled (suc n) i t e = ap (λ (u : List ℕ). get_or t i 0 ∷ u) (spelled n (suc i) t (omega arith)) ∙ sym (drop-cons t i 0 (omega arith))

pub filled_is : (n : ℕ) (t : List ℕ) (fill : List ℕ → List ℕ) → length t ≡ n → held_of (fill (spell n 0 t)) ≡ filled_of n t (fill t)
filled_is n t fill e = rw (eq-eqb (length t) n e) (ap (λ (u : List ℕ). held_of (fill u)) (spelled n 0 t (omega arith)))

pub filled_not : (n : ℕ) (t : List ℕ) (fill : List ℕ → List ℕ) → (length t ≡ n → ⊥) → 0 ≡ filled_of n t (fill t)
filled_not n t fill h = rw (ne_eqb (length t) n h) refl

pub filled-said : (n : ℕ) (t whole : List ℕ) → (length t ≡ n → length whole ≡ 8) → let c = code_of (filled_of n t whole) in eqb c none ≡ false
    → (length t ≡ n) × SaysWord whole c
unfolding held_of code_of
filled-said n t whole l = go (eqb (length t) n) (bytes whole) refl refl
  where
    go : (x y : Bool) → eqb (length t) n ≡ x → bytes whole ≡ y → let c = code_of (cond x (cond y (word_of whole) 0) 0) in eqb c none ≡ false
        → (length t ≡ n) × SaysWord whole c
    go true true p q e = let long = eqb-true _ _ p in (long, word-said whole (l long) (bytes-each whole q) e)
    go true false p q e = absurd (clash refl e)
    go false y p q e = absurd (clash refl e)
