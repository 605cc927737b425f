-- Laws of decimal digits.
--     decimal-more, decimal-last           one digit gathered, and the first one, for the loop
--     tenth-below, two_digits              a number below 10 ^ i that loses its last digit, and one that has two
--     decimal-length, decimal-short        from 1 to 20 bytes, and at most k for a number below 10 ^ k
--     decimal-most                         never more than 20, whatever the number
--     decimal-digits, decimal_lead         every byte is a digit, and the first is 0 only for 0
--     decimal-says, decimal-tells          the digits say the number, so different numbers have different digits
--     decimal_no_feed                      no LF among them
-- Assumes nothing.
use Prim.Native.Nat.{ℕ, zero, suc, ◌+◌, ◌-◌, ◌^◌, ◌≤◌, ◌<◌, ◌/◌, ◌%◌}
use mathlib.Core.Path.{◌≡◌, refl, sym, ap, ◌∙◌}
use mathlib.Core.Bool.{Bool, true, false, cond}
use mathlib.Core.List.{List, [], ◌∷◌, Memᴰ}
use native.Mathlib.Nat.{pow-succ'}
use native.Mathlib.Omega.{arith}
use borrow.Author.Tests.{lt-ltb, le-ltb, ltb-true, ltb-false}
use lib.ListN.{length, drop, get_or, set}
use lib.Dec.{ltb}
use Rattle.page.specs.Numerals.{decimal_before, decimal}
use Rattle.page.specs.Said.{decimal_said}
use Rattle.page.proofs.Laws.Lists.{gathered, Between, between_member, no-feed, either-most}

-- ---- a loop's turn
turn : (i m : ℕ) (t : List ℕ) → 0 < i → 9 < m → decimal_before i m t ≡ decimal_before (i - 1) (m / 10) ((48 + m % 10) ∷ t)
unfolding decimal_before
turn zero m t some h = absurd (omega arith)
turn (suc j) m t some h = let e : suc j - 1 ≡ j = omega arith in rw (e, le-ltb m 10 (omega arith)) refl

last : (i m : ℕ) (t : List ℕ) → 0 < i → m ≤ 9 → decimal_before i m t ≡ (48 + m) ∷ t
unfolding decimal_before
last zero m t some h = absurd (omega arith)
last (suc j) m t some h = rw (lt-ltb m 10 (omega arith)) refl

module _ (l : List ℕ) (i m : ℕ) (some : 0 < i) (fits : i ≤ length l) where
  pub decimal-more : 9 < m
      → decimal_before (i - 1) (m / 10) (drop (i - 1) (set l (i - 1) (48 + m % 10))) ≡ decimal_before i m (drop i l)
  decimal-more h = rw (gathered l i (48 + m % 10) some fits) (sym (turn i m (drop i l) some h))

  pub decimal-last : m ≤ 9 → drop (i - 1) (set l (i - 1) (48 + m)) ≡ decimal_before i m (drop i l)
  decimal-last h = gathered l i (48 + m) some fits ∙ sym (last i m (drop i l) some h)

tenth : (j m : ℕ) → m < 10 ^ suc j → m / 10 < 10 ^ j
tenth j m h = let q = pow-succ' 10 j in omega arith

pub tenth-below : (i m : ℕ) → 0 < i → m < 10 ^ i → m / 10 < 10 ^ (i - 1)
tenth-below zero m some h = absurd (omega arith)
tenth-below (suc j) m some h = let e : suc j - 1 ≡ j = omega arith in rw e (tenth j m h)

pub two_digits : (i m : ℕ) → m < 10 ^ i → 9 < m → 1 < i
two_digits zero m h l = absurd (omega arith)
two_digits (suc zero) m h l = absurd (omega arith)
two_digits (suc (suc j)) m h l = omega arith

-- ---- how many at most
before-most : (k n : ℕ) (t : List ℕ) → length (decimal_before k n t) ≤ k + length t
unfolding decimal_before
before-most zero n t = omega arith
before-most (suc k) n t =
    let rest = before-most k (n / 10) ((48 + n % 10) ∷ t) in
    either-most (suc k + length t) (ltb n 10) ((48 + n) ∷ t) (decimal_before k (n / 10) ((48 + n % 10) ∷ t)) (omega arith) (omega arith)

pub decimal-most : (n : ℕ) → length (decimal n) ≤ 20
unfolding decimal
decimal-most n = before-most 20 n []

-- ---- all of them
-- what holds of a number n before a text t and of the digits r, by a digit that stands alone and by the last of several
by_digits : (P : ℕ → List ℕ → List ℕ → Type 0) → ((n : ℕ) (t : List ℕ) → n < 10 → P n t ((48 + n) ∷ t))
    → ((n : ℕ) (t r : List ℕ) → 10 ≤ n → P (n / 10) ((48 + n % 10) ∷ t) r → P n t r) → (k n : ℕ) (t : List ℕ) → 0 < k
    → n < 10 ^ k → P n t (decimal_before k n t)
unfolding decimal_before
by_digits P one more zero n t some h = absurd (omega arith)
by_digits P one more (suc k) n t some h =
    go (ltb n 10) refl
    (λ l.
    by_digits P one more k (n / 10) ((48 + n % 10) ∷ t) (omega (arith, two_digits (suc k) n h l)) (tenth k n h))
  where
    go : (b : Bool) → ltb n 10 ≡ b → (10 ≤ n → P (n / 10) ((48 + n % 10) ∷ t) (decimal_before k (n / 10) ((48 + n % 10) ∷ t)))
        → P n t (cond b ((48 + n) ∷ t) (decimal_before k (n / 10) ((48 + n % 10) ∷ t)))
    go true e below = one n t (ltb-true n 10 e)
    go false e below =
        let l = ltb-false n 10 e in more n t (decimal_before k (n / 10) ((48 + n % 10) ∷ t)) l (below l)

module _ (n : ℕ) (small : n < 2 ^ 64) where
  holds : (P : ℕ → List ℕ → List ℕ → Type 0) → ((n : ℕ) (t : List ℕ) → n < 10 → P n t ((48 + n) ∷ t))
      → ((n : ℕ) (t r : List ℕ) → 10 ≤ n → P (n / 10) ((48 + n % 10) ∷ t) r → P n t r) → P n [] (decimal n)
  unfolding decimal
  holds P one more = by_digits P one more 20 n [] (omega arith) (omega arith)

  pub decimal-short : (k : ℕ) → 0 < k → n < 10 ^ k → length (decimal n) ≤ k
  decimal-short k some h =
      let f = holds (λ n t r. (k : ℕ) → 0 < k → n < 10 ^ k → length r ≤ k + length t)
      (λ n t l k some h. omega arith)
      (λ n t r l below k some h.
      let two = two_digits k n h l in omega (arith, below (k - 1) (omega arith) (tenth-below k n some h))) in
      omega (arith, f k some h)

  pub decimal-length : (1 ≤ length (decimal n)) × (length (decimal n) ≤ 20)
  decimal-length = (
    holds (λ n t r. length t < length r) (λ n t l. omega arith) (λ n t r l below. omega arith),
    decimal-short 20 (omega arith) (omega arith),
  )

  pub between : Between 48 57 (decimal n)
  between =
      holds (λ n t r. Between 48 57 t → Between 48 57 r) (λ n t l w. ((omega arith, omega arith), w))
      (λ n t r l below w. below ((omega arith, omega arith), w)) tt

  pub decimal-digits : (b : ℕ) → Memᴰ b (decimal n) → (48 ≤ b) × (b ≤ 57)
  decimal-digits b m = between_member 48 57 b (decimal n) between m

  pub decimal_no_feed : Memᴰ 10 (decimal n) → ⊥
  decimal_no_feed m = no-feed 48 57 (decimal n) (omega arith) between m

  pub decimal_lead : 0 < n → 48 < get_or (decimal n) 0 0
  decimal_lead =
      holds (λ n t r. 0 < n → 48 < get_or r 0 0) (λ n t l some. omega arith) (λ n t r l below some. below (omega arith))

  pub decimal-says : decimal_said 0 (decimal n) ≡ n
  unfolding decimal_said
  decimal-says =
      holds (λ n t r. decimal_said 0 r ≡ decimal_said n t)
      (λ n t l. ap (λ (m : ℕ). decimal_said m t) (omega arith))
      (λ n t r l below. below ∙ ap (λ (m : ℕ). decimal_said m t) (omega arith))

pub decimal-tells : (m n : ℕ) → m < 2 ^ 64 → n < 2 ^ 64 → decimal m ≡ decimal n → m ≡ n
decimal-tells m n f g e = sym (decimal-says m f) ∙ ap (decimal_said 0) e ∙ decimal-says n g
