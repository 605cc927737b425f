-- How long the rows can be, so that a program knows what to lend.
--     rows-room      50,000 bytes have room for the rows of any line
--     line-room      and as many as it has, or 1,024, for the line
-- Assumes nothing.
use Prim.Native.Nat.{ℕ, ◌+◌, ◌*◌, ◌≤◌}
use mathlib.Core.Path.{◌≡◌, refl}
use mathlib.Core.Bool.{Bool, true, false, cond}
use mathlib.Core.List.{List, [], ◌∷◌, ◌++◌}
use native.Mathlib.Omega.{arith}
use borrow.Author.Tests.{ltb-false}
use lib.ListN.{length, length-append}
use lib.Dec.{eqb, ltb}
use Rattle.line.specs.Bytes.{bytes}
use Rattle.std.specs.Prelude.{Option, Some, None}
use Rattle.line.specs.declared.columns.Columns.{Columns}
use Rattle.mend.specs.Mend.{mended, left_cut}
use Rattle.mend.specs.Changes.{Change, changes_of, what_number}
use Rattle.mend.proofs.Laws.Mended.{mended-length, pad_within}
use Rattle.mend.proofs.Laws.Changes.{changes_few}
use Rattle.page.specs.Numerals.{decimal}
use Rattle.page.proofs.Laws.Decimal.{decimal-most}
use Rattle.repair.specs.Rows.{columns_text, done_text, row_by, change_rows, cut_row, cut_rows_for, cut_rows, over_row}
use Rattle.repair.specs.Repair.{line_for, rows_for}

columns-most : (number first last : ℕ) → length (columns_text number first last) ≤ 79
unfolding columns_text
columns-most number first last =
    let a = decimal-most number in
    let b = decimal-most first in
    let c = decimal-most last in
    simp length-append (omega arith)

done-most : (what : ℕ) → length (done_text what) ≤ 14
unfolding done_text
done-most what = go (eqb what 1)
  where
    go : (b : Bool) → length (cond b (bytes ": made ?\n") (bytes ": blanks put\n")) ≤ 14
    go true = omega arith
    go false = omega arith

rows-most : (number : ℕ) (cs : List Change) → length (change_rows number cs) ≤ 93 * length cs
unfolding row_by
rows-most number [] = omega arith
rows-most number (c ∷ cs) =
    let h = rows-most number cs in
    let a = columns-most number (c.place + 1) (c.place + c.length) in
    let b = done-most (what_number c.what) in
    simp length-append (omega arith)

cut_most : (number : ℕ) (l : List ℕ) → length (cut_rows number l) ≤ 140
unfolding cut_rows cut_row
cut_most number l = go (left_cut l)
  where
    go : (o : Option Columns) → length (cut_rows_for number (length l) o) ≤ 140
    go (Some at) =
        let a = columns-most number (at.start + 1) at.end in
        let d = decimal-most (length l) in
        simp length-append (omega arith)
    go None = omega arith

over-most : (number : ℕ) → length (over_row number) ≤ 140
unfolding over_row
over-most number = let a = decimal-most number in simp length-append (omega arith)

pub rows-room : (number : ℕ) (l : List ℕ) → length (rows_for number l) ≤ 50000
unfolding rows_for
rows-room number l = go (ltb 1024 (length l)) refl
  where
    go : (b : Bool) → ltb 1024 (length l) ≡ b → length (cond b (over_row number) (change_rows number (changes_of l) ++ cut_rows number l)) ≤ 50000
    go true e = let h = over-most number in omega arith
    go false e =
        let few = changes_few l (ltb-false 1024 (length l) e) in
        let a = rows-most number (changes_of l) in
        let b = cut_most number l in
        simp length-append (omega arith)

pub line-room : (l : List ℕ) (n : ℕ) → 1024 ≤ n → length l ≤ n → length (line_for l) ≤ n
unfolding line_for
line-room l n h k = go (ltb 1024 (length l)) refl
  where
    go : (b : Bool) → ltb 1024 (length l) ≡ b → length (cond b l (mended l)) ≤ n
    go true e = k
    go false e = omega (arith, mended-length l, pad_within l (ltb-false 1024 (length l) e))
