-- Bytes that come one behind the other.
--     fed-other, fed-ends         a byte that is no LF, and one that is
--     fed-append, said-append     some, and then some more
--     fed-absorbed                all up to an LF are kept
--     fed-lf                      and at the LF the line that is held ends
-- Assumes nothing.
use Prim.Native.Nat.{ℕ, suc, ◌<◌}
use mathlib.Core.Path.{◌≡◌, refl, sym, ap, ◌∙◌}
use mathlib.Core.Bool.{Bool, true, false, cond}
use mathlib.Core.List.{List, [], ◌∷◌, ◌++◌, append_assoc}
use native.Mathlib.Omega.{arith}
use lib.Dec.{eqb}
use lib.ListN.{length, take}
use Rattle.carry.specs.Held.{keep, absorbed}
use Rattle.walker.specs.Lines.{before_lf}
use Rattle.pdbreport.specs.Fed.{Progress, ended, fed, said, fed_all, said_all}

module _ (x : Progress) (b : ℕ) where
  pub fed-other : eqb b 10 ≡ false → fed x b ≡ record { ledger = x.ledger; state = keep x.state b }
  unfolding fed
  fed-other e = rw e refl

  pub fed-ends : eqb b 10 ≡ true → fed x b ≡ ended x
  unfolding fed
  fed-ends e = rw e refl

pub fed-append : (x : Progress) (a b : List ℕ) → fed_all x (a ++ b) ≡ fed_all (fed_all x a) b
unfolding fed_all
fed-append x [] b = refl
fed-append x (c ∷ a) b = fed-append (fed x c) a b

pub said-append : (x : Progress) (a b : List ℕ) → said_all x (a ++ b) ≡ said_all x a ++ said_all (fed_all x a) b
unfolding fed_all said_all
said-append x [] b = refl
said-append x (c ∷ a) b = ap (λ (t : List ℕ). said x c ++ t) (said-append (fed x c) a b) ∙ sym (append_assoc (said x c) (said_all (fed x c) a) (said_all (fed_all (fed x c) a) b))

-- ---- up to an LF
pub fed-absorbed : (x : Progress) (t : List ℕ) → fed_all x (take (before_lf t) t) ≡ record { ledger = x.ledger; state = absorbed x.state t }
unfolding fed_all before_lf absorbed
fed-absorbed x [] = refl
fed-absorbed x (b ∷ t) = go (eqb b 10) refl (fed-absorbed (record { ledger = x.ledger; state = keep x.state b }) t)
  where
    kept : Progress
    kept = record { ledger = x.ledger; state = keep x.state b }

    go : (c : Bool) → eqb b 10 ≡ c → fed_all kept (take (before_lf t) t) ≡ record { ledger = x.ledger; state = absorbed (keep x.state b) t }
        → fed_all x (take (cond c 0 (suc (before_lf t))) (b ∷ t)) ≡ record { ledger = x.ledger; state = cond c x.state (absorbed (keep x.state b) t) }
    go true e f = refl
    go false e f = ap (λ (y : Progress). fed_all y (take (before_lf t) t)) (fed-other x b e) ∙ f

-- and with it
pub fed-lf : (x : Progress) (t : List ℕ) → before_lf t < length t
    → fed_all x (take (suc (before_lf t)) t) ≡ ended (record { ledger = x.ledger; state = absorbed x.state t })
unfolding fed_all before_lf absorbed
fed-lf x [] h = absurd (omega arith)
fed-lf x (b ∷ t) h = go (eqb b 10) refl h (λ l. fed-lf (record { ledger = x.ledger; state = keep x.state b }) t l)
  where
    kept : Progress
    kept = record { ledger = x.ledger; state = keep x.state b }

    go : (c : Bool) → eqb b 10 ≡ c → cond c 0 (suc (before_lf t)) < suc (length t)
        → (before_lf t < length t → fed_all kept (take (suc (before_lf t)) t) ≡ ended (record { ledger = x.ledger; state = absorbed (keep x.state b) t }))
        → fed_all x (take (suc (cond c 0 (suc (before_lf t)))) (b ∷ t))
        ≡ ended (record { ledger = x.ledger; state = cond c x.state (absorbed (keep x.state b) t) })
    go true e l f = fed-ends x b e
    go false e l f = ap (λ (y : Progress). fed_all y (take (suc (before_lf t)) t)) (fed-other x b e) ∙ f (omega arith)
