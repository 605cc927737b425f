-- "For an answer that is an enum, a definition gives this paper's number": a kind's is its name's place in the one list of names. "Atoms only
-- keeps ATOM, HETATM, MODEL, ENDMDL, TER, END and makes the rest EMPTY", whose number is 0.
use Rattle.std.specs.Prelude.{ℕ, Bool, true, false, cond}
use Rattle.kind.specs.Kind.{names}
use Rattle.kind.specs.Name.{kept_at}

-- the number of the kind whose name is at a place, under atoms only or not
abbrev pub place_number : Bool → ℕ → ℕ
place_number true n = cond (kept_at n names) n 0
place_number false n = n
