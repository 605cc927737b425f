-- What is put, by the code's tests.
--     words-few, words_more, words-atom     whose line it is
--     take-min                              no more of a list than it has
--     counted_none, counted-some            nothing where there is no fault; a list of fifteen has at most fifteen
-- Assumes nothing.
use Prim.Native.Nat.{ℕ, ◌≤◌, ◌<◌, min}
use mathlib.Core.Path.{◌≡◌, refl, sym, ◌∙◌}
use mathlib.Core.Bool.{Bool, true, false}
use mathlib.Core.List.{List}
use native.Mathlib.Omega.{arith}
use borrow.Author.Tests.{le-leb, lt-leb, leb-true, leb-false, ne_eqb}
use lib.Dec.{leb}
use lib.ListN.{length, take, length-take}
use lib.Seq.{take_all}
use Rattle.kind.specs.Kind.{number_of}
use Rattle.kind.specs.declared.Kind.{Kind}
use Rattle.line.specs.declared.fault.Fault.{Fault}
use Rattle.page.specs.Page.{Page, put}
use Rattle.account.specs.Account.{words, atom_words, unread_rows, accepted_rows}

module _ (k : Kind) (l : List ℕ) (n : ℕ) (its : n ≡ number_of k) (p : Page) where
  pub words-few : n < 3 → p ≡ put p (words k l)
  unfolding words put
  words-few h = rw (← its, lt-leb 3 n h) refl

  pub words_more : 3 ≤ n → 5 < n → p ≡ put p (words k l)
  unfolding words put
  words_more h m = rw (← its, le-leb 3 n h, lt-leb n 5 m) refl

  pub words-atom : (q : Page) → 3 ≤ n → n ≤ 5 → q ≡ put p (atom_words l) → q ≡ put p (words k l)
  unfolding words
  words-atom q h m e = rw (← its, le-leb 3 n h, le-leb n 5 m) e

-- no more than there are
pub take-min : {A : Type 0} (n m : ℕ) (t : List A) → m ≡ min n (length t) → take m t ≡ take n t
take-min {A} n m t e = go (leb n (length t)) refl
  where
    go : (b : Bool) → leb n (length t) ≡ b → take m t ≡ take n t
    go true h = let few : m ≡ n = omega (arith, leb-true n (length t) h) in rw few refl
    go false h = let more = leb-false n (length t) h in take_all m t (omega arith) ∙ sym (take_all n t (omega arith))

module _ (number : ℕ) (k : Kind) (l : List ℕ) (fs : List Fault) (n : ℕ) (p : Page) where
  pub counted_none : n ≡ 0 → p ≡ put p (accepted_rows number k l (take n fs))
  unfolding accepted_rows put
  counted_none e = rw e refl

  pub counted-some : length fs ≡ 15 → (n ≡ 0 → ⊥) → (m : ℕ) → m ≡ min n 15 → (q : Page) → q ≡ put p (unread_rows number k l (take m fs))
      → q ≡ put p (accepted_rows number k l (take n fs))
  unfolding accepted_rows
  counted-some e some m its q h =
      rw (ne_eqb (length (take n fs)) 0 (λ z. some (omega (arith, length-take n fs, z))), ← take-min n m fs (omega arith)) h
