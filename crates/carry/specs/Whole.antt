-- A part by its LFs: the first one ends the line that is held, and what stands up to the last one is whole lines.
use Rattle.std.specs.Prelude.{ℕ, suc, Bool, cond, List, [], ◌∷◌, length, take, drop, eqb, ltb}
use Rattle.walker.specs.Lines.{before_lf, lines_of}

-- whether there is an LF among bytes
abbrev pub ends : List ℕ → Bool
ends t = ltb (before_lf t) (length t)

-- what stands behind the first LF
abbrev pub behind_lf : List ℕ → List ℕ
behind_lf t = drop (suc (before_lf t)) t

-- how many bytes there are up to the last LF, and with it
unfoldable pub whole_length : List ℕ → ℕ
whole_length [] = 0
whole_length (b ∷ t) = cond (ltb 0 (whole_length t)) (suc (whole_length t)) (cond (eqb b 10) 1 0)

-- those bytes, and their lines
abbrev pub whole_of : List ℕ → List ℕ
whole_of t = take (whole_length t) t

abbrev pub lines_in : List ℕ → List (List ℕ)
lines_in t = lines_of (whole_of t)
