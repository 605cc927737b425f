-- A word with more, and a turn of a loop over faults.
--     added_full, added_more          a word that is full then, and one that isn't
--     any-same                        whether one of them is such, as the library says it
--     faults-next, faults-end         what is counted of faults
--     take-few                        a list of fifteen has no more
-- Assumes nothing.
use Prim.Native.Nat.{ℕ, ◌+◌, ◌-◌, ◌^◌, ◌≤◌, ◌<◌, min}
use mathlib.Core.Path.{◌≡◌, refl, sym, ◌∙◌}
use mathlib.Core.Bool.{Bool, true, false}
use mathlib.Core.List.{List, [], ◌∷◌}
use native.Mathlib.Numerals.{add-one}
use native.Mathlib.Omega.{arith}
use borrow.Author.Tests.{leb-true, leb-false}
use lib.ListN.{length, take, drop, get_or, set, drop_of_length-le}
use lib.Seq.{drop-cons, take_all}
use lib.Dec.{leb}
use Rattle.std.specs.List.{list_any}
use Rattle.kind.specs.declared.Kind.{Kind}
use Rattle.line.specs.declared.fault.Fault.{Fault}
use Rattle.names.specs.Names.{group_of}
use Rattle.ledger.specs.Ledger.{added, any, with_fault, with_faults}

module _ (ws : List ℕ) (n more : ℕ) where
  pub added_full : 2 ^ 64 - 1 - more < get_or ws n 0 → more < 2 ^ 64 → set ws n (2 ^ 64 - 1) ≡ added ws n more
  unfolding added
  added_full h k = let e : min (get_or ws n 0 + more) (2 ^ 64 - 1) ≡ 2 ^ 64 - 1 = omega arith in rw e refl

  pub added_more : get_or ws n 0 + more ≤ 2 ^ 64 - 1 → set ws n (get_or ws n 0 + more) ≡ added ws n more
  unfolding added
  added_more h = let e : min (get_or ws n 0 + more) (2 ^ 64 - 1) ≡ get_or ws n 0 + more = omega arith in rw e refl

-- whether one of them is such, as the library says it
pub any-same : {A : Type 0} (such : A → Bool) (xs : List A) → list_any such xs ≡ any such xs
unfolding any
any-same such [] = refl
any-same such (x ∷ t) = rw (any-same such t) refl

module _ (ws : List ℕ) (line : ℕ) (k : Kind) (xs : List Fault) (i : ℕ) (e : List ℕ) (v : with_faults ws line k (drop i xs) ≡ e) where
  pub faults-end : length xs ≤ i → ws ≡ e
  unfolding with_faults
  faults-end h = rw (drop_of_length-le xs h) at v

  pub faults-next : (d : Fault) (next : List ℕ) → i < length xs → next ≡ with_fault ws line (group_of k (get_or xs i d).place)
      → with_faults next line k (drop (i + 1) xs) ≡ e
  unfolding with_faults
  faults-next d next h f = rw (f, add-one i) (rw (drop-cons xs i d h) at v)

pub take-few : {A : Type 0} (xs : List A) (n : ℕ) → length xs ≡ 15 → take (min n 15) xs ≡ take n xs
take-few xs n e = go (leb n 15) refl
  where
    go : (b : Bool) → leb n 15 ≡ b → take (min n 15) xs ≡ take n xs
    go true h = let l = leb-true n 15 h in let m : min n 15 ≡ n = omega arith in rw m refl
    go false h =
        let l = leb-false n 15 h in
        let m : min n 15 ≡ 15 = omega arith in
        rw m (take_all 15 xs (omega arith) ∙ sym (take_all n xs (omega arith)))
