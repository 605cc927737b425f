-- "Feed it the input in parts, holding over an unfinished line. For every way of cutting the input, including cuts between CR and LF or with
-- nothing between two cuts, the listings are those of the walker on the whole." A piece is what came since the last LF, in one part or in many.
use Rattle.std.specs.Prelude.{ℕ, suc, ◌+◌, cond, List, [], ◌∷◌, ◌++◌, length, drop, eqb}
use Rattle.walker.specs.Lines.{lines_of, line_taken}

-- the whole of an input that came in parts
unfoldable pub joined : List (List ℕ) → List ℕ
joined [] = []
joined (a ∷ ps) = a ++ joined ps

-- ---- lines with what ends them
-- a line, and how many bytes it takes up with what ends it
pub record Stretch : Type 0 where
  pub text : List ℕ
  pub taken : ℕ

abbrev pub stretch : List ℕ → ℕ → Stretch
stretch text taken = record { text = text; taken = taken }

abbrev pub texts : List Stretch → List (List ℕ)
texts [] = []
texts (s ∷ ss) = s.text ∷ texts ss

-- how many bytes stretches take up
unfoldable pub taken_by : List Stretch → ℕ
taken_by [] = 0
taken_by (s ∷ ss) = s.taken + taken_by ss

-- lines that stand at the front of a text, each behind what the one before takes up
abbrev pub stretches : List ℕ → List (List ℕ) → List Stretch
stretches f [] = []
stretches f (l ∷ ls) = stretch l (line_taken f) ∷ stretches (drop (line_taken f) f) ls

-- those of a whole file
unfoldable pub stretches_of : List ℕ → List Stretch
stretches_of f = stretches f (lines_of f)

-- ---- by pieces
-- the line of a piece that an LF ends: a CR at its end belongs to none
unfoldable pub ended_line : List ℕ → List ℕ
ended_line [] = []
ended_line (b ∷ []) = cond (eqb b 13) [] (b ∷ [])
ended_line (b ∷ c ∷ t) = b ∷ ended_line (c ∷ t)

abbrev pub ended_stretch : List ℕ → Stretch
ended_stretch p = stretch (ended_line p) (suc (length p))

-- the line of a piece that the end of the input ends: none of an empty piece
abbrev pub last_stretch : List ℕ → List Stretch
last_stretch [] = []
last_stretch (b ∷ t) = stretch (b ∷ t) (suc (length t)) ∷ []

abbrev pub last_line : List ℕ → List (List ℕ)
last_line p = texts (last_stretch p)

-- the lines that bytes finish, behind a piece
unfoldable pub passed : List ℕ → List ℕ → List Stretch
passed p [] = []
passed p (b ∷ t) = cond (eqb b 10) (ended_stretch p ∷ passed [] t) (passed (p ++ b ∷ []) t)

abbrev pub finished : List ℕ → List ℕ → List (List ℕ)
finished p t = texts (passed p t)

-- the piece that they leave
unfoldable pub left : List ℕ → List ℕ → List ℕ
left p [] = p
left p (b ∷ t) = cond (eqb b 10) (left [] t) (left (p ++ b ∷ []) t)
