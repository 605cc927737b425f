-- The entries that collect rows and move a position: "A matrix is twelve doubles, row by row, and three bytes that say which rows are set.
-- matrix_row: 13 for a row above 2; then 8 (0, 12) or 8 (0, 3) for arrays that are too short; else it writes the four and makes set[row] 1. apply:
-- 14 unless twelve doubles and three bytes other than 0 are there; then 8 (0, 3); else out[0] to [2]."
use Rattle.std.specs.Prelude.{ℕ, ◌+◌, ◌*◌, ◌≡◌, cond, List, length, get_or, set, eqb, ltb, Float, Option, Some, None}
use Rattle.std.specs.Float.{nan}
use Rattle.transformation.specs.declared.record.Transformation.{Transformation}
use Rattle.atom.specs.declared.record.Position.{Position}
use Rattle.packing.specs.Packed.{packed_as}
use Rattle.matrix.specs.Rows.{whole, numbers_of_whole}
use Rattle.matrix.specs.Apply.{applied}
use Rattle.matrix.specs.declared.Matrix.{Matrix}
use Rattle.matrix.specs.declared.Rows.{Rows}

-- ---- the lent rows
-- four doubles of a list, from a place on
abbrev pub row_at : List Float → ℕ → Transformation
row_at rows i = record {
  a = get_or rows i nan;
  b = get_or rows (i + 1) nan;
  c = get_or rows (i + 2) nan;
  d = get_or rows (i + 3) nan;
}

-- a row is set if its byte isn't 0 and its doubles are there; a byte that isn't there is 0
abbrev pub slot_at : List Float → List ℕ → ℕ → Option Transformation
slot_at rows marks n = cond (eqb (get_or marks n 0) 0) None (cond (ltb (length rows) (4 * n + 4)) None (Some (row_at rows (4 * n))))

abbrev pub rows_in : List Float → List ℕ → Rows
rows_in rows marks = record { first = slot_at rows marks 0; second = slot_at rows marks 1; third = slot_at rows marks 2 }

abbrev pub handed_by : List Float → List ℕ → Option Matrix
handed_by rows marks = whole (rows_in rows marks)

-- ---- collecting
-- number, place and length for a row's number, so many doubles and so many bytes
abbrev pub collecting : ℕ → ℕ → ℕ → ℕ × ℕ × ℕ
collecting n doubles bytes =
    cond (ltb 2 n) (13, 0, 0) (cond (ltb doubles 12) (8, 0, 12) (cond (ltb bytes 3) (8, 0, 3) (0, 0, 0)))

abbrev pub four_put : List Float → ℕ → Transformation → List Float
four_put rows i r = set (set (set (set rows i r.a) (i + 1) r.b) (i + 2) r.c) (i + 3) r.d

-- what is lent afterwards: as it was, but where nothing is refused
abbrev pub unless_refused : {A : Type 0} → ℕ × ℕ × ℕ → A → A → A
unless_refused (number, place, length) done old = cond (eqb number 0) done old

-- what collecting a row answers, and every lent double and byte afterwards
pub record Collects (rows : List Float) (marks : List ℕ) (n : ℕ) (r : Transformation) (answer : ℕ) (newRows : List Float) (newMarks : List ℕ) : Type 0 where
  pub answers : answer ≡ packed_as (collecting n (length rows) (length marks))
  pub leaves_rows : newRows ≡ unless_refused (collecting n (length rows) (length marks)) (four_put rows (4 * n) r) rows
  pub leaves_marks : newMarks ≡ unless_refused (collecting n (length rows) (length marks)) (set marks n 1) marks

-- ---- applying
-- number, place and length for a matrix, or none, and so many doubles of room
abbrev pub applying : Option Matrix → ℕ → ℕ × ℕ × ℕ
applying None room = numbers_of_whole None
applying (Some m) room = cond (ltb room 3) (8, 0, 3) (0, 0, 0)

abbrev pub three_put : List Float → Position → List Float
three_put out p = set (set (set out 0 p.x) 1 p.y) 2 p.z

abbrev pub moved : Option Matrix → Position → List Float → List Float
moved None p out = out
moved (Some m) p out = cond (ltb (length out) 3) out (three_put out (applied m p))

-- what applying answers for what the lent rows hand out, and every lent double afterwards
pub record Applies (handed : Option Matrix) (p : Position) (old : List Float) (answer : ℕ) (new : List Float) : Type 0 where
  pub answers : answer ≡ packed_as (applying handed (length old))
  pub leaves : new ≡ moved handed p old
