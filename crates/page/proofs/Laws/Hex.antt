-- Laws of hex digits.
--     hex_more, hex_done           one digit gathered, and all of them, for the loop
--     digit-least, -most           a digit is from `0` to `F`
--     digit_value                  its value is what it stands for
--     hex16-length                 sixteen bytes
--     hex16-digits                 every byte is from `0` to `F`
--     hex16-says, hex16-tells      the digits say the number, so different numbers have different digits
--     hex16_no_feed                no LF among them
-- Assumes nothing.
use Prim.Native.Nat.{ℕ, zero, suc, ◌+◌, ◌-◌, ◌^◌, ◌≤◌, ◌<◌, ◌/◌, ◌%◌}
use mathlib.Core.Path.{◌≡◌, refl, sym, ap, ◌∙◌}
use mathlib.Core.Bool.{Bool, true, false, cond}
use mathlib.Core.List.{List, [], ◌∷◌, Memᴰ}
use native.Mathlib.Nat.{pow-succ'}
use native.Mathlib.Omega.{arith}
use borrow.Author.Tests.{lt-ltb, le-ltb, ltb-true, ltb-false}
use lib.ListN.{length, drop, set}
use lib.Dec.{ltb}
use Rattle.page.specs.Numerals.{hex_digit, hex_before, hex16}
use Rattle.page.specs.Said.{hex_value, hex_said}
use Rattle.page.proofs.Laws.Lists.{gathered, Between, between_member, no-feed}

-- ---- a loop's turn
turn : (i m : ℕ) (t : List ℕ) → 0 < i → hex_before i m t ≡ hex_before (i - 1) (m / 16) (hex_digit (m % 16) ∷ t)
unfolding hex_before
turn zero m t some = absurd (omega arith)
turn (suc j) m t some = let e : suc j - 1 ≡ j = omega arith in rw e refl

pub hex_more : (l : List ℕ) (i m d : ℕ) → 0 < i → i ≤ length l → d ≡ hex_digit (m % 16)
    → hex_before (i - 1) (m / 16) (drop (i - 1) (set l (i - 1) d)) ≡ hex_before i m (drop i l)
hex_more l i m d some fits e = rw (gathered l i d some fits, e) (sym (turn i m (drop i l) some))

pub hex_done : (l : List ℕ) (i m : ℕ) (e : List ℕ) → i ≤ 0 → hex_before i m (drop i l) ≡ e → l ≡ e
unfolding hex_before
hex_done l zero m e h f = f
hex_done l (suc j) m e h f = absurd (omega arith)

-- ---- one digit
-- what holds of a digit's byte, by its two runs
by_digit : (P : ℕ → ℕ → Type 0) → ((d : ℕ) → d < 10 → P d (48 + d)) → ((d : ℕ) → 10 ≤ d → P d (55 + d)) → (d : ℕ)
    → P d (hex_digit d)
unfolding hex_digit
by_digit P low high d = go (ltb d 10) refl
  where
    go : (b : Bool) → ltb d 10 ≡ b → P d (cond b (48 + d) (55 + d))
    go true e = low d (ltb-true d 10 e)
    go false e = high d (ltb-false d 10 e)

pub digit-least : (d : ℕ) → 48 ≤ hex_digit d
digit-least = by_digit (λ d b. 48 ≤ b) (λ d l. omega arith) (λ d l. omega arith)

pub digit-most : (d : ℕ) → d < 16 → hex_digit d ≤ 70
digit-most = by_digit (λ d b. d < 16 → b ≤ 70) (λ d l h. omega arith) (λ d l h. omega arith)

pub digit_value : (d : ℕ) → hex_value (hex_digit d) ≡ d
unfolding hex_value
digit_value =
    by_digit (λ d b. hex_value b ≡ d) (λ d l. rw (lt-ltb (48 + d) 65 (omega arith)) (omega arith))
    (λ d l. rw (le-ltb (55 + d) 65 (omega arith)) (omega arith))

-- ---- all of them
long : (k n : ℕ) (t : List ℕ) → length (hex_before k n t) ≡ k + length t
unfolding hex_before
long zero n t = omega arith
long (suc k) n t = omega (arith, long k (n / 16) (hex_digit (n % 16) ∷ t))

within : (k n : ℕ) (t : List ℕ) → Between 48 70 t → Between 48 70 (hex_before k n t)
unfolding hex_before
within zero n t w = w
within (suc k) n t w = within k (n / 16) (hex_digit (n % 16) ∷ t) ((digit-least (n % 16), digit-most (n % 16) (omega arith)), w)

said : (k n : ℕ) (t : List ℕ) → n < 16 ^ k → hex_said 0 (hex_before k n t) ≡ hex_said n t
unfolding hex_before hex_said
said zero n t h = ap (λ (m : ℕ). hex_said m t) (omega arith)
said (suc k) n t h =
    let q = pow-succ' 16 k in
    said k (n / 16) (hex_digit (n % 16) ∷ t) (omega arith) ∙ ap (λ (m : ℕ). hex_said m t) (rw (digit_value (n % 16)) (omega arith))

module _ (n : ℕ) where
  pub hex16-length : length (hex16 n) ≡ 16
  unfolding hex16
  hex16-length = long 16 n []

  pub hex16-digits : (b : ℕ) → Memᴰ b (hex16 n) → (48 ≤ b) × (b ≤ 70)
  unfolding hex16
  hex16-digits b m = between_member 48 70 b (hex16 n) (within 16 n [] tt) m

  pub hex16_no_feed : Memᴰ 10 (hex16 n) → ⊥
  unfolding hex16
  hex16_no_feed m = no-feed 48 70 (hex16 n) (omega arith) (within 16 n [] tt) m

  pub hex16-says : n < 2 ^ 64 → hex_said 0 (hex16 n) ≡ n
  unfolding hex16 hex_said
  hex16-says h = said 16 n [] (omega arith)

pub hex16-tells : (m n : ℕ) → m < 2 ^ 64 → n < 2 ^ 64 → hex16 m ≡ hex16 n → m ≡ n
hex16-tells m n f g e = sym (hex16-says m f) ∙ ap (hex_said 0) e ∙ hex16-says n g
