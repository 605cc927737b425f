-- Files whose lines are written out: each way that a line can end, and each that a file can. Each case computes.
-- Assumes nothing.
use Prim.Native.Nat.{ℕ}
use mathlib.Core.Path.{◌≡◌, refl}
use mathlib.Core.List.{List, [], ◌∷◌}
use Rattle.walker.specs.Lines.{lines_of, longer, lf_first}

-- LF, CR, and a byte that is neither
abbrev lf : ℕ
lf = 10

abbrev cr : ℕ
cr = 13

abbrev a : ℕ
a = 65

-- a file, and its lines
abbrev Case : List ℕ → List (List ℕ) → Type 0
Case f ls = lines_of f ≡ ls

pub cases :
    Case [] [] ×
    Case (lf ∷ []) ([] ∷ []) ×
    Case (a ∷ []) ((a ∷ []) ∷ []) ×
    Case (a ∷ lf ∷ []) ((a ∷ []) ∷ []) ×
    Case (a ∷ cr ∷ lf ∷ []) ((a ∷ []) ∷ []) ×
    Case (a ∷ cr ∷ []) ((a ∷ cr ∷ []) ∷ []) ×
    Case (a ∷ cr ∷ cr ∷ lf ∷ []) ((a ∷ cr ∷ []) ∷ []) ×
    Case (cr ∷ a ∷ lf ∷ []) ((cr ∷ a ∷ []) ∷ []) ×
    Case (cr ∷ lf ∷ a ∷ []) ([] ∷ (a ∷ []) ∷ []) ×
    Case (a ∷ lf ∷ lf ∷ a ∷ a ∷ []) ((a ∷ []) ∷ [] ∷ (a ∷ a ∷ []) ∷ [])
unfolding lines_of longer lf_first
cases = (refl, refl, refl, refl, refl, refl, refl, refl, refl, refl)
