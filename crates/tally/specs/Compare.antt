-- "The second MASTER number must be 0. The checker names exactly the MASTER numbers that differ."
use Rattle.std.specs.Prelude.{ℕ, suc, ◌+◌, ◌*◌, ◌/◌, ◌%◌, cond, List, [], ◌∷◌, eqb}
use Rattle.master.specs.declared.record.Master.{Master}
use Rattle.tally.specs.declared.Tally.{Tally}

-- what was counted, in the order of MASTER's numbers
abbrev pub counts_of : Tally → List ℕ
counts_of t =
    t.remark
    ∷ 0
    ∷ t.het
    ∷ t.helix
    ∷ t.sheet
    ∷ t.turn
    ∷ t.site
    ∷ t.xform
    ∷ t.coord
    ∷ t.ter
    ∷ t.connect
    ∷ t.seq
    ∷ []

-- what MASTER says
abbrev pub said_by : Master → List ℕ
said_by m =
    m.remark
    ∷ m.empty
    ∷ m.het
    ∷ m.helix
    ∷ m.sheet
    ∷ m.turn
    ∷ m.site
    ∷ m.xform
    ∷ m.coord
    ∷ m.ter
    ∷ m.connect
    ∷ m.seq
    ∷ []

abbrev pub unlike : ℕ → ℕ → ℕ
unlike a b = cond (eqb a b) 0 1

-- a bit for each place of two lists, from 0, set where they differ
unfoldable pub differing : List ℕ → List ℕ → ℕ
differing [] t = 0
differing (a ∷ s) [] = 0
differing (a ∷ s) (b ∷ t) = unlike a b + 2 * differing s t

-- the bit of a number at a place
unfoldable pub bit_at : ℕ → ℕ → ℕ
bit_at ℕ.zero m = m % 2
bit_at (suc n) m = bit_at n (m / 2)
