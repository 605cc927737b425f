-- "Lines in order: `record`, `line` (from 1), .. `faults`, then each `fault=kind,place,length`", and "`refusal=number,place,length`": a label
-- with a number or with three, and the LF that every row ends with.
use Rattle.std.specs.Prelude.{ℕ, List, [], ◌∷◌, ◌++◌}
use Rattle.line.specs.Bytes.{bytes}
use Rattle.page.specs.Numerals.{decimal}

abbrev pub feed : List ℕ
feed = 10 ∷ []

unfoldable pub number_row : List ℕ → ℕ → List ℕ
number_row label n = label ++ decimal n ++ feed

unfoldable pub three_row : List ℕ → ℕ → ℕ → ℕ → List ℕ
three_row label a b c = label ++ decimal a ++ bytes "," ++ decimal b ++ bytes "," ++ decimal c ++ feed

-- what every listing begins with: the record's name, and the line's number
unfoldable pub head_rows : List ℕ → ℕ → List ℕ
head_rows name number = bytes "record=" ++ name ++ feed ++ number_row (bytes "line=") number
