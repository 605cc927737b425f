-- "Each line 80 bytes": a name, then fields in ascending columns, and blanks everywhere else. "Refusals: 9, tested before 8, exactly when .. a number
-- or text doesn't fit its columns; place and length are those of the first such field by column, output untouched. 8 is then an output under 80
-- bytes; past 80 the output stays."
use Rattle.std.specs.Prelude.{ℕ, ◌-◌, ◌≡◌, Bool, cond, ◌&&◌, List, [], ◌∷◌, ◌++◌, length, drop, leb, ltb, Result, Ok, Err}
use Rattle.line.specs.Columns.{◌⋯◌}
use Rattle.line.specs.declared.columns.Columns.{Columns}
use Rattle.cell.specs.Text.{blanks}
use Rattle.sheet.specs.Ink.{Ink, ink_fits, ink_bytes}
use Rattle.sheet.specs.Ink.Ink.{other}
use Rattle.sheet.specs.declared.Unwritten.{Unwritten}
use Rattle.sheet.specs.declared.Unwritten.TheVariants.{NoFit, NoRoom}

-- a field: its columns, and what stands there
infix 70 ◌holds◌
pub data Cell : Type 0 where
  ◌holds◌ : Columns → Ink → Cell

abbrev pub columns_of : Cell → Columns
columns_of (at holds ink) = at

abbrev pub cell_fits : Cell → Bool
cell_fits (at holds ink) = ink_fits (at.end - at.start) ink

abbrev pub cell_bytes : Cell → List ℕ
cell_bytes (at holds ink) = ink_bytes (at.end - at.start) ink

-- the name, and the fields in ascending columns
pub record Sheet : Type 0 where
  pub name : List ℕ
  pub cells : List Cell

-- ---- the line
-- the cells from a column on, with blanks between and behind them
unfoldable pub cells_from : ℕ → List Cell → List ℕ
cells_from column [] = blanks (80 - column)
cells_from column (c ∷ rest) = blanks ((columns_of c).start - column) ++ (cell_bytes c ++ cells_from (columns_of c).end rest)

unfoldable pub line_of : Sheet → List ℕ
line_of s = s.name ++ cells_from (length s.name) s.cells

-- the columns ascend from one on, and end by 80
abbrev pub ascend : ℕ → List Cell → Bool
ascend column [] = leb column 80
ascend column (c ∷ rest) = leb column (columns_of c).start && ltb (columns_of c).start (columns_of c).end && ascend (columns_of c).end rest

-- ---- the answer
abbrev pub Written : Type 0
Written = Result (Unit {0}) Unwritten

-- the first cell that doesn't fit is told, and then that there is too little room
unfoldable pub answer_of : List Cell → ℕ → Written
answer_of [] room = cond (ltb room 80) (Err NoRoom) (Ok tt)
answer_of (c ∷ rest) room = cond (cell_fits c) (answer_of rest room) (Err (NoFit (columns_of c)))

abbrev pub afterwards : List ℕ → List ℕ → Written → List ℕ
afterwards old line (Ok u) = line ++ drop 80 old
afterwards old line (Err why) = old

-- what writing a sheet answers, and every lent byte afterwards
pub record Writes (old : List ℕ) (s : Sheet) (r : Written) (new : List ℕ) : Type 0 where
  pub answers : r ≡ answer_of s.cells (length old)
  pub leaves : new ≡ afterwards old (line_of s) r

-- a record of another kind: (0, 6)
abbrev pub other_kind : Sheet
other_kind = record { name = []; cells = 0 ⋯ 6 holds other ∷ [] }

-- 02's number, place and length of an answer; 0 stands for a line that was written
abbrev pub numbers_of : Written → ℕ × ℕ × ℕ
numbers_of (Ok u) = (0, 0, 0)
numbers_of (Err (NoFit at)) = (9, at.start, at.end - at.start)
numbers_of (Err NoRoom) = (8, 0, 80)
