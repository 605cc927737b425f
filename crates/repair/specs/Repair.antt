-- "Standard input to standard output line by line, with a row on standard error for each change and for each line that was left cut." A line of over
-- 1,024 bytes isn't mended, and goes on as it is.
use Rattle.std.specs.Prelude.{ℕ, ◌≡◌, cond, List, [], ◌++◌, length, ltb}
use Rattle.mend.specs.Mend.{mended}
use Rattle.mend.specs.Changes.{changes_of}
use Rattle.page.specs.Page.{page, put}
use Rattle.repair.specs.Rows.{change_rows, cut_rows, over_row}
use Rattle.repair.specs.declared.Repaired.{Repaired}

-- the line as it goes on
unfoldable pub line_for : List ℕ → List ℕ
line_for l = cond (ltb 1024 (length l)) l (mended l)

-- its rows
unfoldable pub rows_for : ℕ → List ℕ → List ℕ
rows_for number l = cond (ltb 1024 (length l)) (over_row number) (change_rows number (changes_of l) ++ cut_rows number l)

-- a line and rows at the front of lent bytes
pub record RepairsAs (line rows out lent written told : List ℕ) (r : Repaired) : Type 0 where
  pub puts : page written r.n ≡ put (page out 0) line
  pub tells : page told r.rows ≡ put (page lent 0) rows

-- where 1,024 bytes are lent for the line
abbrev pub Repairs : List ℕ → ℕ → List ℕ → List ℕ → List ℕ → List ℕ → Repaired → Type 0
Repairs l number out lent written told r =
    RepairsAs (cond (ltb (length out) 1024) [] (line_for l)) (cond (ltb (length out) 1024) [] (rows_for number l)) out lent written told r
