-- Laws of the entry that holds a file against its MASTER line.
--     finds_refused, finds_short, finds_all     what is answered, by what the checker says
--     finds_one                                 that is one number, with one content of all words that are lent
-- Assumes nothing.
use Prim.Native.Nat.{ℕ, ◌≤◌, ◌<◌}
use mathlib.Core.Path.{◌≡◌, refl, sym, ◌∙◌}
use mathlib.Core.List.{List, ◌++◌}
use Rattle.std.proofs.Common.{Ok, Err}
use borrow.Author.Tests.{lt-ltb, le-ltb}
use lib.ListN.{length, drop}
use Rattle.audit.specs.Found.{found_in_of}
use Rattle.audit.specs.Audit.{Checked}
use Rattle.audit.specs.declared.Compared.{Compared}
use Rattle.lexitem.specs.declared.answer.Refusal.{Refusal}
use Rattle.findings.specs.Check.{Finds}

-- ---- what is answered
module _ (old : List ℕ) (c : Checked) (got : Checked) (is : got ≡ c) where
  pub finds_refused : (r : Refusal) → got ≡ Err r → Finds old c r.number old
  finds_refused r e = let k : c ≡ Err r = sym is ∙ e in rw k (record { answers = refl; leaves = refl })

  module _ (x : Compared) (e : got ≡ Ok x) where
    compared : c ≡ Ok x
    compared = sym is ∙ e

    pub finds_short : length old < 25 → Finds old c 8 old
    finds_short h = let f = lt-ltb (length old) 25 h in rw compared (record { answers = rw f refl; leaves = rw f refl })

    pub finds_all : 25 ≤ length old → (words : List ℕ) → words ≡ found_in_of x → (new : List ℕ) → new ≡ words ++ drop (length words) old → Finds old c 0 new
    finds_all h words these new put =
        let f = le-ltb (length old) 25 h in
        rw compared (record { answers = rw f refl; leaves = rw f (put ∙ rw these refl) })

-- ---- nothing is left free
module _ {old : List ℕ} {c : Checked} {q r : ℕ} {a b : List ℕ} where
  pub finds_one : Finds old c q a → Finds old c r b → (q ≡ r) × (a ≡ b)
  finds_one e f = (e.answers ∙ sym f.answers, e.leaves ∙ sym f.leaves)
