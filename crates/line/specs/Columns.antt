-- "Columns count from 0 and `a..b` excludes b."
use Rattle.std.specs.Prelude.{ℕ, suc, ◌+◌, ◌-◌, cond, List, [], ◌∷◌, length, take, drop, ltb}
use Rattle.line.specs.declared.columns.Columns.{Columns}

-- a..b
infix 90 ◌⋯◌
abbrev pub ◌⋯◌ : ℕ → ℕ → Columns
a ⋯ b = record { start = a; end = b }

-- one column
abbrev pub only : ℕ → Columns
only column = column ⋯ suc column

-- n fields of one width, one behind the other, from a column on
abbrev pub in_row : ℕ → ℕ → ℕ → List Columns
in_row ℕ.zero width start = []
in_row (suc n) width start = start ⋯ (start + width) ∷ in_row n width (start + width)

-- the part of the line in the columns, empty where the line doesn't reach their end
unfoldable pub part_of : List ℕ → Columns → List ℕ
part_of l at = cond (ltb (length l) at.end) [] (take (at.end - at.start) (drop at.start l))

-- what the line reaches of the columns
unfoldable pub reached_of : List ℕ → Columns → List ℕ
reached_of l at = take (at.end - at.start) (drop at.start l)

-- the line from a column on, empty past its end
unfoldable pub rest_of : List ℕ → ℕ → List ℕ
rest_of l start = drop start l
