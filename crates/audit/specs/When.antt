-- "Refusals, in this order: 10 no MASTER line; 11 more than one; 12 the MASTER line has a fault, is refused by the lexer or is six bytes long", in words
-- of the file's lines alone: how many of them are MASTER lines, and what the one says.
use Rattle.std.specs.Prelude.{ℕ, suc, ◌≡◌, true, cond, List, [], ◌∷◌, ◌⊎◌, length, take, drop, Ok, Err}
use Rattle.tally.specs.Names.{is_master}
use Rattle.audit.specs.Audit.{Placed, Checked}
use Rattle.audit.specs.Said.{answer, is_refused}

-- how many of some lines are MASTER lines
unfoldable pub masters_in : List (List ℕ) → ℕ
masters_in [] = 0
masters_in (l ∷ ls) = cond (is_master l) (suc (masters_in ls)) (masters_in ls)

-- document 02's number for what is answered, 0 where nothing is refused
abbrev pub number_of : Checked → ℕ
number_of (Ok c) = 0
number_of (Err r) = r.number

-- the MASTER line can't be read
abbrev pub Unreadable : List ℕ → Type 0
Unreadable l = (((answer l).faults.count ≡ 0 → ⊥) ⊎ (is_refused (answer l).outcome ≡ true)) ⊎ (length l ≡ 6)

-- lines stand in a file, each from where it starts
abbrev pub StandIn : List ℕ → List Placed → Type 0
StandIn f [] = Unit {0}
StandIn f (p ∷ ps) = (take (length p.text) (drop p.start f) ≡ p.text) × StandIn f ps
