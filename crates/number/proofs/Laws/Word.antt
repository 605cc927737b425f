-- Laws of bytes as one number: what is done to the number is done to each byte, as long as no byte reaches into the next.
--     word_xor, word_sum, word_low      the exclusive or, the sum, and the test of every byte's highest bit
--     word_below, highs_eight           n bytes make a number below 256 ^ n; eight bytes, and their mask of highest bits
--     bytes_are, -long, -word           a number's bytes
--     bytes-each, held-is               bytes by the test, and the word that they make
--     nines_word, fours-front, -behind  digits in their places: there is room to join them, and what comes of it
--     xors-.., sums-..                  a byte stays a byte, and there are as many
--     same, digit-over                  a byte that differs in nothing, and one that differs from 48 by nine at most
-- Assumes nothing.
use Prim.Native.Nat.{ℕ, zero, suc, ◌+◌, ◌*◌, ◌/◌, ◌%◌, ◌^◌, ◌≤◌, ◌<◌}
use mathlib.Core.Path.{◌≡◌, refl, sym, ap, ◌∙◌}
use mathlib.Core.Bool.{true}
use mathlib.Core.List.{List, [], ◌∷◌, ◌++◌}
use native.Mathlib.Nat.{mod-eq_of_lt, pow-succ'}
use native.Mathlib.Omega.{arith}
use borrow.Author.Tests.{ltb-true, lt-ltb}
use lib.ListN.{length}
use lib.Dec.{ltb, lit<}
use lib.Bits.{bit_and, bit_xor, and_le_l, and_le_r, and_block, and_high, and_mask, xor_add_and, xor_block, xor_lt, xor_zero_r}
use Rattle.number.specs.Word.{word_of, bytes, held_of, pairs_of, fours_of, front_in, behind_in}
use Rattle.number.proofs.Laws.Choice.{and_left, and_right, and_both}

-- ---- byte by byte
-- every one below 256, below 128, and at most 9
abbrev pub Bytes : List ℕ → Type 0
Bytes [] = Unit {0}
Bytes (b ∷ t) = (b < 256) × Bytes t

abbrev pub Low : List ℕ → Type 0
Low [] = Unit {0}
Low (b ∷ t) = (b < 128) × Low t

abbrev pub Nines : List ℕ → Type 0
Nines [] = Unit {0}
Nines (b ∷ t) = (b ≤ 9) × Nines t

abbrev pub xors : List ℕ → List ℕ → List ℕ
xors [] u = []
xors (b ∷ t) [] = []
xors (b ∷ t) (c ∷ u) = bit_xor b c ∷ xors t u

abbrev pub sums : List ℕ → List ℕ → List ℕ
sums [] u = []
sums (b ∷ t) [] = []
sums (b ∷ t) (c ∷ u) = (b + c) ∷ sums t u

-- the highest bit of every byte
abbrev pub highs : List ℕ → List ℕ
highs [] = []
highs (b ∷ t) = 128 ∷ highs t

-- the number that digits say in their places, behind those that said m
abbrev pub places_from : ℕ → List ℕ → ℕ
places_from m [] = m
places_from m (y ∷ t) = places_from (m * 10 + y) t

pub word_xor : (t u : List ℕ) → length t ≡ length u → Bytes t → Bytes u → bit_xor (word_of t) (word_of u) ≡ word_of (xors t u)
word_xor [] [] e h l = refl
word_xor [] (c ∷ u) e h l = absurd (omega arith)
word_xor (b ∷ t) [] e h l = absurd (omega arith)
word_xor (b ∷ t) (c ∷ u) e h l =
    xor_block 8 (word_of t) (word_of u) b c h.0 l.0
    ∙ ap (λ (k : ℕ). k * 256 + bit_xor b c) (word_xor t u (omega arith) h.1 l.1)

pub word_sum : (t u : List ℕ) → length t ≡ length u → word_of t + word_of u ≡ word_of (sums t u)
word_sum [] [] e = refl
word_sum [] (c ∷ u) e = absurd (omega arith)
word_sum (b ∷ t) [] e = absurd (omega arith)
word_sum (b ∷ t) (c ∷ u) e = let ih = word_sum t u (omega arith) in omega arith

pub xors-bytes : (t u : List ℕ) → Bytes t → Bytes u → Bytes (xors t u)
xors-bytes [] u h l = tt
xors-bytes (b ∷ t) [] h l = tt
xors-bytes (b ∷ t) (c ∷ u) h l = (xor_lt 8 b c h.0 l.0, xors-bytes t u h.1 l.1)

pub sums-bytes : (t u : List ℕ) → Low t → Low u → Bytes (sums t u)
sums-bytes [] u h l = tt
sums-bytes (b ∷ t) [] h l = tt
sums-bytes (b ∷ t) (c ∷ u) h l = let p = h.0 in let q = l.0 in (omega arith, sums-bytes t u h.1 l.1)

pub xors-long : (t u : List ℕ) → length t ≡ length u → length (xors t u) ≡ length t
xors-long [] u e = refl
xors-long (b ∷ t) [] e = absurd (omega arith)
xors-long (b ∷ t) (c ∷ u) e = ap suc (xors-long t u (omega arith))

pub sums-long : (t u : List ℕ) → length t ≡ length u → length (sums t u) ≡ length t
sums-long [] u e = refl
sums-long (b ∷ t) [] e = absurd (omega arith)
sums-long (b ∷ t) (c ∷ u) e = ap suc (sums-long t u (omega arith))

pub xors-append : (s t u v : List ℕ) → length s ≡ length u → xors (s ++ t) (u ++ v) ≡ xors s u ++ xors t v
xors-append [] t [] v e = refl
xors-append [] t (c ∷ u) v e = absurd (omega arith)
xors-append (b ∷ s) t [] v e = absurd (omega arith)
xors-append (b ∷ s) t (c ∷ u) v e = ap (λ (l : List ℕ). bit_xor b c ∷ l) (xors-append s t u v (omega arith))

-- a byte without its highest bit
low_byte : (b : ℕ) → b < 256 → bit_and b 128 ≡ 0 → b < 128
low_byte b h e = let a : b / 128 % 2 * 128 ≡ 0 = sym (and_high b 1 7) ∙ e in
    let q : b / 128 % 2 ≡ b / 128 = mod-eq_of_lt (omega arith) in
    omega arith

pub word_low : (t : List ℕ) → Bytes t → bit_and (word_of t) (word_of (highs t)) ≡ 0 → Low t
word_low [] h e = tt
word_low (b ∷ t) h e =
    let parts = sym (and_block 8 (word_of t) (word_of (highs t)) b 128 h.0 (omega arith)) ∙ e in
    (low_byte b h.0 (omega arith), word_low t h.1 (omega arith))

pub word_below : (t : List ℕ) → Bytes t → word_of t < 256 ^ length t
word_below [] h = lit< tt
word_below (b ∷ t) (h, l) = let ih = word_below t l in rw (pow-succ' 256 (length t)) (omega arith)

-- the mask of the highest bits of eight bytes
pub highs_eight : (t : List ℕ) → length t ≡ 8 → word_of (highs t) ≡ 0x8080_8080_8080_8080
highs_eight t e = all t ∙ ap mask e
  where
    mask : ℕ → ℕ
    mask zero = 0
    mask (suc n) = mask n * 256 + 128

    all : (t : List ℕ) → word_of (highs t) ≡ mask (length t)
    all [] = refl
    all (b ∷ t) = ap (λ (k : ℕ). k * 256 + 128) (all t)

-- ---- a number's bytes
abbrev pub bytes_at : ℕ → ℕ → List ℕ
bytes_at zero w = []
bytes_at (suc n) w = (w % 256) ∷ bytes_at n (w / 256)

pub bytes_are : (n w : ℕ) → Bytes (bytes_at n w)
bytes_are zero w = tt
bytes_are (suc n) w = (omega arith, bytes_are n (w / 256))

pub bytes-long : (n w : ℕ) → length (bytes_at n w) ≡ n
bytes-long zero w = refl
bytes-long (suc n) w = ap suc (bytes-long n (w / 256))

pub bytes_word : (n w : ℕ) → w < 256 ^ n → word_of (bytes_at n w) ≡ w
bytes_word zero w h = omega arith
bytes_word (suc n) w h =
    let l = rw (pow-succ' 256 n) at h in
    let ih = bytes_word n (w / 256) (omega arith) in
    omega arith

-- by the test
pub bytes-each : (t : List ℕ) → bytes t ≡ true → Bytes t
bytes-each [] e = tt
bytes-each (b ∷ t) e =
    (ltb-true b 256 (and_left (ltb b 256) (bytes t) e), bytes-each t (and_right (ltb b 256) (bytes t) e))

pub held-is : (t : List ℕ) → Bytes t → held_of t ≡ word_of t
unfolding held_of
held-is t h = rw (go t h) refl
  where
    go : (t : List ℕ) → Bytes t → bytes t ≡ true
    go [] h = refl
    go (b ∷ t) (h, l) = and_both (lt-ltb b 256 h) (go t l)

-- ---- one byte
pub same : (a b : ℕ) → bit_xor a b ≡ 0 → a ≡ b
same a b e = omega (arith, xor_add_and a b, and_le_l a b, and_le_r a b)

pub digit-over : (b : ℕ) → bit_xor b 48 ≤ 9 → b ≡ 48 + bit_xor b 48
digit-over b h =
    let halves : b ≡ b / 16 * 2 ^ 4 + b % 16 = omega arith in
    let apart = ap (λ (k : ℕ). bit_xor k 48) halves ∙ xor_block 4 (b / 16) 3 (b % 16) 0 (omega arith) (omega arith) in
    let three = same (b / 16) 3 (omega (arith, apart)) in
    omega (arith, apart, xor_zero_r (b % 16))

-- ---- digits in their places
-- 28 * 9 is below 256, so 28 times the word of n nines is below 256 ^ n
pub nines_word : (t : List ℕ) → Nines t → word_of t * 28 < 256 ^ length t
nines_word [] h = lit< tt
nines_word (b ∷ t) (h, l) = let ih = nines_word t l in rw (pow-succ' 256 (length t)) (omega arith)

-- the lower byte of each of four pairs
lower : (x m d : ℕ) → d < 65536 → bit_and (x * 65536 + d) (m * 65536 + 255) ≡ bit_and x m * 65536 + d % 256
lower x m d h = and_block 16 x m d 255 h (lit< tt) ∙ ap (λ (k : ℕ). bit_and x m * 65536 + k) (and_mask d 8)

lower-four : (a b c d : ℕ) → b < 65536 → c < 65536 → d < 65536
    → bit_and (((a * 65536 + b) * 65536 + c) * 65536 + d) 0x00ff_00ff_00ff_00ff ≡ ((a % 256 * 65536 + b % 256) * 65536 + c % 256) * 65536 + d % 256
lower-four a b c d h i j =
    lower ((a * 65536 + b) * 65536 + c) 0x00ff_00ff_00ff d j
    ∙ ap (λ (k : ℕ). k * 65536 + d % 256)
    (lower (a * 65536 + b) 0x00ff_00ff c i
    ∙ ap (λ (k : ℕ). k * 65536 + c % 256) (lower a 0x00ff b h ∙ ap (λ (k : ℕ). k * 65536 + b % 256) (and_mask a 8)))

pair_lt : (x y : ℕ) → x ≤ 9 → y ≤ 9 → x * 10 + y < 256
pair_lt x y h l = omega arith

block_lt : (x y : ℕ) → x < 256 → y < 256 → x * 256 + y < 65536
block_lt x y h l = omega arith

place-low : (w b : ℕ) → b < 256 → (w * 256 + b) % 256 ≡ b
place-low w b h = omega arith

place-next : (w b : ℕ) → b < 256 → (w * 256 + b) / 256 ≡ w
place-next w b h = omega arith

low-place : (a b : ℕ) → b < 65536 → (a * 65536 + b) % 65536 ≡ b
low-place a b h = omega arith

high-place : (a b : ℕ) → b < 0x1_0000_0000 → (a * 0x1_0000_0000 + b) / 0x1_0000_0000 ≡ a
high-place a b h = omega arith

nine_lt : (b : ℕ) → b ≤ 9 → b < 256
nine_lt b h = omega arith

-- the same of pairs and fours
module _ (x y z w : ℕ) (h : x < 256) (i : y < 256) where
  abbrev four-pairs : ℕ
  four-pairs = ((w * 65536 + z) * 65536 + y) * 65536 + x

  spread-pairs : four-pairs * 100 + four-pairs / 65536 ≡ (w * 100 * 65536 + (z * 100 + w)) * 0x1_0000_0000 + ((y * 100 + z) * 65536 + (x * 100 + y))
  spread-pairs = let e : four-pairs / 65536 ≡ (w * 65536 + z) * 65536 + y = next ((w * 65536 + z) * 65536 + y) x (omega arith) in rw e (omega arith)
    where
      next : (a b : ℕ) → b < 65536 → (a * 65536 + b) / 65536 ≡ a
      next a b h = omega arith

  fours_low : front_in (four-pairs * 100 + four-pairs / 65536) ≡ x * 100 + y
  fours_low = rw spread-pairs (go (w * 100 * 65536 + (z * 100 + w)) (y * 100 + z) (x * 100 + y) (omega arith))
    where
      go : (a b c : ℕ) → c < 65536 → (a * 0x1_0000_0000 + (b * 65536 + c)) % 65536 ≡ c
      go a b c h =
          let e : a * 0x1_0000_0000 + (b * 65536 + c) ≡ (a * 65536 + b) * 65536 + c = omega arith in
          rw e (low-place (a * 65536 + b) c h)

  fours-next : z < 256 → w < 256 → behind_in (four-pairs * 100 + four-pairs / 65536) ≡ z * 100 + w
  fours-next j k = rw spread-pairs (go (w * 100) (z * 100 + w) ((y * 100 + z) * 65536 + (x * 100 + y)) (omega arith) (omega arith))
    where
      go : (a b c : ℕ) → b < 65536 → c < 0x1_0000_0000 → ((a * 65536 + b) * 0x1_0000_0000 + c) / 0x1_0000_0000 % 65536 ≡ b
      go a b c h l =
          let e : ((a * 65536 + b) * 0x1_0000_0000 + c) / 0x1_0000_0000 ≡ a * 65536 + b = high-place (a * 65536 + b) c l in rw e (low-place a b h)

-- a * 10 + b with b * 10 + c above it, and so on: every second one is a pair
module _ (a b c d e f g h : ℕ) (n : Nines (a ∷ b ∷ c ∷ d ∷ e ∷ f ∷ g ∷ h ∷ [])) where
  pairs_are : pairs_of (word_of (a ∷ b ∷ c ∷ d ∷ e ∷ f ∷ g ∷ h ∷ []))
      ≡ (((g * 10 + h) * 65536 + (e * 10 + f)) * 65536 + (c * 10 + d)) * 65536 + (a * 10 + b)
  pairs_are =
      let (p, (q, (r, (s, (t, (u, (v, (w, x)))))))) = n in
      let i = h * 10 * 256 + (g * 10 + h) in
      let j = (f * 10 + g) * 256 + (e * 10 + f) in
      let k = (d * 10 + e) * 256 + (c * 10 + d) in
      let l = (b * 10 + c) * 256 + (a * 10 + b) in
      let ab = pair_lt a b p q in
      let cd = pair_lt c d r s in
      let ef = pair_lt e f t u in
      let gh = pair_lt g h v w in
      let blocks = spread a b c d e f g h (nine_lt a p) in
      rw (
        blocks,
        lower-four i j k l (block_lt (f * 10 + g) (e * 10 + f) (pair_lt f g u v) ef)
            (block_lt (d * 10 + e) (c * 10 + d) (pair_lt d e s t) cd) (block_lt (b * 10 + c) (a * 10 + b) (pair_lt b c q r) ab),
      ) (
      rw (place-low (h * 10) (g * 10 + h) gh, place-low (f * 10 + g) (e * 10 + f) ef, place-low (d * 10 + e) (c * 10 + d) cd, place-low (b * 10 + c) (a * 10 + b) ab)
      refl)
    where
      spread : (a b c d e f g h : ℕ) → a < 256 → let z = word_of (a ∷ b ∷ c ∷ d ∷ e ∷ f ∷ g ∷ h ∷ []) in
          z * 10 + z / 256
          ≡ (((h * 10 * 256 + (g * 10 + h)) * 65536 + ((f * 10 + g) * 256 + (e * 10 + f))) * 65536 + ((d * 10 + e) * 256 + (c * 10 + d))) * 65536
          + ((b * 10 + c) * 256 + (a * 10 + b))
      spread a b c d e f g h l = rw (place-next (word_of (b ∷ c ∷ d ∷ e ∷ f ∷ g ∷ h ∷ [])) a l) (omega arith)

  pub fours-front : front_in (fours_of (word_of (a ∷ b ∷ c ∷ d ∷ e ∷ f ∷ g ∷ h ∷ []))) ≡ places_from 0 (a ∷ b ∷ c ∷ d ∷ [])
  fours-front =
      let (p, (q, (r, (s, more)))) = n in
      rw pairs_are (fours_low (a * 10 + b) (c * 10 + d) (e * 10 + f) (g * 10 + h) (pair_lt a b p q) (pair_lt c d r s) ∙ omega arith)

  pub fours-behind : behind_in (fours_of (word_of (a ∷ b ∷ c ∷ d ∷ e ∷ f ∷ g ∷ h ∷ []))) ≡ places_from 0 (e ∷ f ∷ g ∷ h ∷ [])
  fours-behind =
      let (p, (q, (r, (s, (t, (u, (v, (w, x)))))))) = n in
      rw pairs_are
      (fours-next (a * 10 + b) (c * 10 + d) (e * 10 + f) (g * 10 + h) (pair_lt a b p q) (pair_lt c d r s) (pair_lt e f t u) (pair_lt g h v w) ∙ omega arith)
