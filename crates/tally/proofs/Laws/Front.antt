-- A line counts by its front: six bytes of it or more tell what all of it does.
--     front-counted     which number counts it
--     front-master      whether it is a MASTER line
-- Assumes nothing.
use Prim.Native.Nat.{ℕ, suc, ◌≤◌}
use mathlib.Core.Path.{◌≡◌, refl, ap}
use mathlib.Core.Bool.{Bool, true, false}
use mathlib.Core.List.{List, [], ◌∷◌}
use native.Mathlib.Omega.{arith}
use borrow.Author.Tests.{ltb-true, ltb-false, lt-ltb, le-ltb}
use lib.Dec.{ltb}
use lib.ListN.{length, take, length-take}
use Rattle.tally.specs.Names.{padded, number_of, is_master}
use Rattle.tally.specs.Tally.{counted}
use Rattle.tally.specs.declared.Tally.{Tally}

padded-front : (n k : ℕ) (l : List ℕ) → n ≤ k → padded n (take k l) ≡ padded n l
padded-front ℕ.zero k l h = refl
padded-front (suc n) ℕ.zero l h = absurd (omega arith)
padded-front (suc n) (suc k) [] h = refl
padded-front (suc n) (suc k) (b ∷ t) h = ap (λ (s : List ℕ). b ∷ s) (padded-front n k t (omega arith))

short-front : (k : ℕ) (l : List ℕ) → 3 ≤ k → ltb (length (take k l)) 3 ≡ ltb (length l) 3
short-front k l h = go (ltb (length l) 3) refl
  where
    go : (b : Bool) → ltb (length l) 3 ≡ b → ltb (length (take k l)) 3 ≡ b
    go true e = let a = ltb-true (length l) 3 e in lt-ltb (length (take k l)) 3 (omega (arith, length-take k l))
    go false e = let a = ltb-false (length l) 3 e in le-ltb (length (take k l)) 3 (omega (arith, length-take k l))

module _ (k : ℕ) (l : List ℕ) (h : 6 ≤ k) where
  front-number : number_of (take k l) ≡ number_of l
  unfolding number_of
  front-number = rw (short-front k l (omega arith), padded-front 6 k l h) refl

  pub front-counted : (t : Tally) → counted t (take k l) ≡ counted t l
  unfolding counted
  front-counted t = rw front-number refl

  pub front-master : is_master (take k l) ≡ is_master l
  unfolding is_master
  front-master = rw (padded-front 6 k l h) refl
