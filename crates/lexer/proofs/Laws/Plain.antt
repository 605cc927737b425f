-- Laws of the bytes before the first of 128 or more, and of the highest byte.
--     plain-le                     no more than the list has
--     plain-high, plain-low        a byte of 128 or more: fewer than that; none such: all of them
--     highest-more, highest-same   one byte further, a higher one and none such
--     plain-whole                  no byte of 128 or more: all of them
-- Assumes nothing.
use Prim.Native.Nat.{ℕ, suc, ◌+◌, ◌<◌, ◌≤◌}
use mathlib.Core.Path.{◌≡◌, refl, ap}
use mathlib.Core.Bool.{Bool, true, false, cond}
use mathlib.Core.List.{List, [], ◌∷◌}
use native.Mathlib.Numerals.{add-one}
use native.Mathlib.Omega.{arith}
use borrow.Author.Tests.{lt-ltb, le-ltb, ltb-true, ltb-false}
use lib.ListN.{length, drop, get_or}
use lib.Seq.{drop-cons}
use lib.Dec.{ltb}
use Rattle.lexer.specs.Refusals.{plain}
use Rattle.lexer.specs.Steps.{highest}

pub plain-le : (t : List ℕ) → plain t ≤ length t
unfolding plain
plain-le [] = omega arith
plain-le (b ∷ t) = go (ltb b 128) (plain-le t)
  where
    go : (x : Bool) → plain t ≤ length t → cond x (suc (plain t)) 0 ≤ suc (length t)
    go true h = omega arith
    go false h = omega arith

pub plain-high : (t : List ℕ) (p : ℕ) → p < length t → 127 < get_or t p 0 → plain t < length t
unfolding plain
plain-high [] p h e = absurd (omega arith)
plain-high (b ∷ t) ℕ.zero h e = rw (le-ltb b 128 e) (omega arith)
plain-high (b ∷ t) (suc p) h e = go (ltb b 128) (plain-high t p (omega arith) e)
  where
    go : (x : Bool) → plain t < length t → cond x (suc (plain t)) 0 < suc (length t)
    go true h = omega arith
    go false h = omega arith

pub plain-low : (t : List ℕ) → ((p : ℕ) → p < length t → get_or t p 0 ≤ 127) → plain t ≡ length t
unfolding plain
plain-low [] h = refl
plain-low (b ∷ t) h = rw (lt-ltb b 128 (omega (arith, h 0 (omega arith))), plain-low t (λ p i. h (suc p) (omega arith))) refl

-- a byte and then the rest, by the test of the byte
highest-cons : (b : ℕ) (t : List ℕ) (m : ℕ) (x : Bool) → ltb m b ≡ x → highest m (b ∷ t) ≡ highest (cond x b m) t
unfolding highest
highest-cons b t m x e = ap (λ (y : Bool). highest (cond y b m) t) e

module _ (t : List ℕ) (i m : ℕ) (h : i < length t) where
  pub highest-more : m < get_or t i 0 → highest m (drop i t) ≡ highest (get_or t i 0) (drop (i + 1) t)
  highest-more e = rw (drop-cons t i 0, add-one i) (highest-cons (get_or t i 0) (drop (suc i) t) m true (lt-ltb m (get_or t i 0) e))

  pub highest-same : get_or t i 0 ≤ m → highest m (drop i t) ≡ highest m (drop (i + 1) t)
  highest-same e = rw (drop-cons t i 0, add-one i) (highest-cons (get_or t i 0) (drop (suc i) t) m false (le-ltb m (get_or t i 0) e))

highest-least : (t : List ℕ) (m : ℕ) → m ≤ highest m t
unfolding highest
highest-least [] m = omega arith
highest-least (b ∷ t) m = go (ltb m b) refl (highest-least t)
  where
    go : (x : Bool) → ltb m b ≡ x → ((n : ℕ) → n ≤ highest n t) → m ≤ highest (cond x b m) t
    go true e least = omega (arith, ltb-true m b e, least b)
    go false e least = least m

pub plain-whole : (t : List ℕ) (m : ℕ) → highest m t < 128 → plain t ≡ length t
unfolding plain highest
plain-whole [] m h = refl
plain-whole (b ∷ t) m h = go (ltb m b) refl h (plain-whole t)
  where
    go : (x : Bool) → ltb m b ≡ x → highest (cond x b m) t < 128 → ((n : ℕ) → highest n t < 128 → plain t ≡ length t)
        → cond (ltb b 128) (suc (plain t)) 0 ≡ suc (length t)
    go true e h rest = rw (lt-ltb b 128 (omega (arith, highest-least t b)), rest b h) refl
    go false e h rest = rw (lt-ltb b 128 (omega (arith, ltb-false m b e, highest-least t m)), rest m h) refl
