-- What is held over of an unfinished line: up to 1,025 bytes, which are a line that is mended and the CR of its end. With one more the line has too
-- many, and goes on as it is while it comes.
use Rattle.std.specs.Prelude.{ℕ, suc, ◌+◌, ◌-◌, ◌≡◌, false, cond, ◌||◌, List, [], ◌∷◌, take, get_or, eqb}
use Rattle.std.proofs.lemmas.List.Edits.{sets}
use Rattle.pdbmend.specs.declared.held.Absorbed.{Absorbed}
use Rattle.pdbmend.specs.declared.held.Held.{Held}

abbrev pub most_kept : ℕ
most_kept = 1026

-- what is held, with the lent bytes
pub record State : Type 0 where
  pub held : Held
  pub kept : List ℕ

abbrev pub state : Held → List ℕ → State
state held kept = record { held = held; kept = kept }

-- nothing is held of a line that has a number
abbrev pub none : ℕ → Held
none number = record { n = 0; over = false; number = number }

-- the bytes that are held
abbrev pub text_of : State → List ℕ
text_of s = take s.held.n s.kept

-- how many bytes are taken where there is so much room: up to an LF, or all
unfoldable pub stop : ℕ → List ℕ → ℕ
stop room [] = 0
stop room (b ∷ t) = cond (eqb b 10 || eqb room 0) 0 (suc (stop (room - 1) t))

-- the line's bytes of the first n, where an LF follows: all but a CR at their end
unfoldable pub size_in : List ℕ → ℕ → ℕ
size_in t n = cond (eqb n 0) 0 (cond (eqb (get_or t (n - 1) 0) 13) (n - 1) n)

-- what is kept then
abbrev pub filled : ℕ → List ℕ → List ℕ → List ℕ
filled n kept t = sets kept n (take (stop (most_kept - n) t) t)

pub record Absorbs (n : ℕ) (before t : List ℕ) (at : ℕ) (after : List ℕ) (r : Absorbed) : Type 0 where
  pub count : r.n ≡ n + stop (most_kept - n) t
  pub offset : r.at ≡ at + stop (most_kept - n) t
  pub keeps : after ≡ filled n before t
