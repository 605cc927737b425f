-- "A line ends at LF, a CR just before LF is dropped, and an empty last piece is no line." LF is byte 10 and CR byte 13. A last piece that
-- isn't empty is a line, and keeps a CR at its end.
use Rattle.std.specs.Prelude.{ℕ, suc, ◌+◌, ◌-◌, ◌^◌, ◌<◌, min, ◌≡◌, Bool, true, false, cond, ◌&&◌, ◌||◌, List, [], ◌∷◌, length, take, drop, leb, ltb, eqb, Option, Some, None}
use Rattle.walker.specs.declared.Line.{Line}

-- whether a text begins with LF
unfoldable pub lf_first : List ℕ → Bool
lf_first [] = false
lf_first (b ∷ t) = eqb b 10

-- whether the byte b, with t behind it, is a CR just before LF
abbrev pub cr_before : ℕ → List ℕ → Bool
cr_before b t = eqb b 13 && lf_first t

-- lines with one byte more at the front of the first; the byte alone is a line where there was none
unfoldable pub longer : ℕ → List (List ℕ) → List (List ℕ)
longer b [] = (b ∷ []) ∷ []
longer b (l ∷ ls) = (b ∷ l) ∷ ls

-- the lines of a whole file, in order: an LF ends a line, a CR just before it belongs to none, any other byte to the first line of the rest
unfoldable pub lines_of : List ℕ → List (List ℕ)
lines_of [] = []
lines_of (b ∷ t) = cond (eqb b 10) ([] ∷ lines_of t) (cond (cr_before b t) (lines_of t) (longer b (lines_of t)))

-- ---- one line
-- how many bytes the first line of a text has
unfoldable pub line_length : List ℕ → ℕ
line_length [] = 0
line_length (b ∷ t) = cond (eqb b 10 || cr_before b t) 0 (suc (line_length t))

-- how many bytes it takes up, with what ends it
unfoldable pub line_taken : List ℕ → ℕ
line_taken [] = 0
line_taken (b ∷ t) = cond (eqb b 10) 1 (suc (line_taken t))

-- the line from `start` up to `end`, with what follows it at `next`
abbrev pub line_of : ℕ → ℕ → ℕ → Line
line_of start end next = record { start = start; end = end; next = next }

-- the line at an offset of a file, with its end and the offset of what follows it; or none at the end
unfoldable pub step_at : List ℕ → ℕ → Option Line
step_at f at = cond (ltb at (length f)) (Some (line_of at (at + line_length (drop at f)) (at + line_taken (drop at f)))) None

-- the bytes from `start` up to `end`, or none if they don't lie in the file
unfoldable pub part_of : List ℕ → ℕ → ℕ → List ℕ
part_of f start end = cond (leb start end && leb end (length f)) (take (end - start) (drop start f)) []

-- ---- line after line
-- the line of a step and then the rest from `next`, or nothing at the end
abbrev pub collected : List ℕ → (ℕ → List (List ℕ)) → Option Line → List (List ℕ)
collected f rest (Some l) = part_of f l.start l.end ∷ rest l.next
collected f rest None = []

-- the lines of at most n steps from an offset on
unfoldable pub walked_for : ℕ → List ℕ → ℕ → List (List ℕ)
walked_for ℕ.zero f at = []
walked_for (suc n) f at = collected f (walked_for n f) (step_at f at)

-- the lines that the steps from an offset on give; more steps are allowed than the file has bytes, so a walk that comes to no end would show
unfoldable pub walked : List ℕ → ℕ → List (List ℕ)
walked f at = walked_for (suc (length f)) f at

-- ---- the words of the helpers
-- how many bytes stand before the first LF, or all of them where there is none
unfoldable pub before_lf : List ℕ → ℕ
before_lf [] = 0
before_lf (b ∷ t) = cond (eqb b 10) 0 (suc (before_lf t))

-- whether an LF was found before some bytes, or is among them
unfoldable pub has_lf : Bool → List ℕ → Bool
has_lf found [] = found
has_lf found (b ∷ t) = has_lf (cond (eqb b 10) true found) t

-- what a look at a line of 80 bytes tells, if it tells something
abbrev pub Full : List ℕ → Bool → Type 0
Full t true = (80 < length t) × (before_lf t ≡ 80)
Full t false = Unit {0}

-- ---- its number
-- the number behind a line's, which stops at the last that there is
abbrev pub number_behind : ℕ → ℕ
number_behind n = min (n + 1) (2 ^ 64 - 1)
