-- Pairs of words, taken from a list one after the other.
--     All, all_append, all_either     what holds of all elements of a list
--     Says, pairs-each                elements with two words or none, each pair saying an element's bytes: together they say those of the list
-- Assumes nothing.
use Prim.Native.Nat.{ℕ, suc, ◌/◌}
use mathlib.Core.Path.{◌≡◌, refl}
use mathlib.Core.Bool.{Bool, true, false, cond}
use mathlib.Core.List.{List, [], ◌∷◌, ◌++◌}
use native.Mathlib.Omega.{arith}
use lib.ListN.{length}
use Rattle.layout.specs.Each.{each}
use Rattle.saying.specs.Said.{pairs}

module _ {A : Type 0} (P : A → Type 0) where
  abbrev pub All : List A → Type 0
  All [] = Unit {0}
  All (x ∷ xs) = P x × All xs

  pub all_append : (xs ys : List A) → All xs → All ys → All (xs ++ ys)
  all_append [] ys f g = g
  all_append (x ∷ xs) ys f g = (f.0, all_append xs ys f.1 g)

  pub all_either : (b : Bool) (xs ys : List A) → All xs → All ys → All (cond b xs ys)
  all_either true xs ys f g = f
  all_either false xs ys f g = g

-- two words that say bytes, or none that say none
abbrev pub Says : (ℕ → ℕ → List ℕ) → List ℕ → List ℕ → Type 0
Says says [] bytes = [] ≡ bytes
Says says (a ∷ []) bytes = ⊥
Says says (a ∷ b ∷ []) bytes = says a b ≡ bytes
Says says (a ∷ b ∷ c ∷ ws) bytes = ⊥

module _ {A : Type 0} (says : ℕ → ℕ → List ℕ) (words shows : A → List ℕ) (t : List ℕ) where
  one_more : (ws bs rest shown : List ℕ) → Says says ws bs → pairs says (length rest / 2) (rest ++ t) ≡ shown
      → pairs says (length (ws ++ rest) / 2) ((ws ++ rest) ++ t) ≡ bs ++ shown
  unfolding pairs
  one_more [] bs rest shown h e = rw (← h) e
  one_more (a ∷ []) bs rest shown h e = absurd h
  one_more (a ∷ b ∷ []) bs rest shown h e =
      let half : suc (suc (length rest)) / 2 ≡ suc (length rest / 2) = omega arith in rw (half, h, e) refl
  one_more (a ∷ b ∷ c ∷ ws) bs rest shown h e = absurd h

  pub pairs-each : (xs : List A) → All (λ x. Says says (words x) (shows x)) xs
      → pairs says (length (each words xs) / 2) (each words xs ++ t) ≡ each shows xs
  unfolding each pairs
  pairs-each [] h = refl
  pairs-each (x ∷ xs) h = one_more (words x) (shows x) (each words xs) (each shows xs) h.0 (pairs-each xs h.1)
