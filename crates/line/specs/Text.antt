-- "A view of a text field is that part of the line; for a C field that the line doesn't reach it is the caller's lent stand-in. An absent C,
-- or any other place outside the line, shows the empty part."
use Rattle.std.specs.Prelude.{ℕ, ◌+◌, cond, List, [], length, take, drop, leb}
use Rattle.line.specs.declared.text.Character.{Character}
use Rattle.line.specs.declared.text.Character.TheVariants.{At, Unreached, Absent}
use Rattle.line.specs.declared.text.Field.{Field}
use Rattle.line.specs.declared.text.Field.TheVariants.{Words, One}

-- the n bytes at a place, or none if they don't lie in the line
unfoldable pub within_of : List ℕ → ℕ → ℕ → List ℕ
within_of l place n = cond (leb (place + n) (length l)) (take n (drop place l)) []

abbrev pub view_character : List ℕ → List ℕ → Character → List ℕ
view_character l standIn (At place) = within_of l place 1
view_character l standIn Unreached = standIn
view_character l standIn Absent = []

-- what a field of the line l shows
abbrev pub view_of : List ℕ → List ℕ → Field → List ℕ
view_of l standIn (Words t) = within_of l t.place t.length
view_of l standIn (One c) = view_character l standIn c
