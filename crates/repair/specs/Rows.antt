-- "A row on standard error for each change (line, columns, what was done) and for each line that was left cut, and why." Columns count from 1 here, as
-- in wwPDB's document and in editors. Every row ends with LF.
use Rattle.std.specs.Prelude.{ℕ, ◌+◌, ◌/◌, ◌%◌, cond, Option, Some, None, List, [], ◌∷◌, ◌++◌, length, eqb}
use Rattle.line.specs.Bytes.{bytes}
use Rattle.line.specs.declared.columns.Columns.{Columns}
use Rattle.mend.specs.Mend.{left_cut}
use Rattle.mend.specs.Changes.{Change, what_number}
use Rattle.page.specs.Numerals.{decimal}

unfoldable pub columns_text : ℕ → ℕ → ℕ → List ℕ
columns_text number first last = bytes "line " ++ decimal number ++ bytes ", columns " ++ decimal first ++ bytes " to " ++ decimal last

-- what was done, by its number
unfoldable pub done_text : ℕ → List ℕ
done_text what = cond (eqb what 1) (bytes ": made ?\n") (bytes ": blanks put\n")

-- ---- a change
unfoldable pub row_by : ℕ → ℕ → ℕ → ℕ → List ℕ
row_by number place size what = columns_text number (place + 1) (place + size) ++ done_text what

abbrev pub change_row : ℕ → Change → List ℕ
change_row number c = row_by number c.place c.length (what_number c.what)

abbrev pub change_rows : ℕ → List Change → List ℕ
change_rows number [] = []
change_rows number (c ∷ rest) = change_row number c ++ change_rows number rest

-- the same of the word that holds it
unfoldable pub word_row : ℕ → ℕ → List ℕ
word_row number w = row_by number (w % 65536) (w / 65536 % 65536) (w / 65536 / 65536)

unfoldable pub word_rows : ℕ → List ℕ → List ℕ
word_rows number [] = []
word_rows number (w ∷ rest) = word_row number w ++ word_rows number rest

-- ---- a line that is left as it is
-- it ends inside these columns
unfoldable pub cut_row : ℕ → Columns → ℕ → List ℕ
cut_row number at size =
    columns_text number (at.start + 1) at.end ++ bytes ": cut, so the line is left at " ++ decimal size ++ bytes " bytes\n"

abbrev pub cut_rows_for : ℕ → ℕ → Option Columns → List ℕ
cut_rows_for number size (Some at) = cut_row number at size
cut_rows_for number size None = []

unfoldable pub cut_rows : ℕ → List ℕ → List ℕ
cut_rows number l = cut_rows_for number (length l) (left_cut l)

-- it is too long
unfoldable pub over_row : ℕ → List ℕ
over_row number = bytes "line " ++ decimal number ++ bytes ": over 1,024 bytes, left as it is\n"
