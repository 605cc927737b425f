-- Every field of a written line stands in its columns.
--     Lined            a line of 80 bytes that holds a sheet's cells behind its name, all of which fit
--     Stand            the line from each cell on
--     Held, AllHeld    a cell that fits and stands in its columns, and all cells of a list
--     line_lined       the line of a sheet is one
--     lined_stand, lined_held     what that says of its cells
-- Assumes nothing.
use mathlib.Core.Path.{◌≡◌, refl, sym, ap, ◌∙◌}
use Prim.Native.Nat.{ℕ, ◌+◌, ◌-◌, ◌≤◌}
use native.Mathlib.Omega.{arith}
use borrow.Author.Tests.{le-ltb}
use mathlib.Core.Bool.{true}
use mathlib.Core.List.{List, [], ◌∷◌, ◌++◌}
use lib.ListN.{length, drop}
use lib.Seq.{take_at, drop_at, drop-drop}
use Rattle.line.specs.Columns.{part_of}
use Rattle.cell.specs.Text.{blanks}
use Rattle.cell.proofs.Laws.Width.{blanks-width}
use Rattle.sheet.specs.Sheet.{Cell, Sheet, columns_of, cell_fits, cell_bytes, cells_from, line_of, ascend}
use Rattle.sheet.proofs.Laws.Width.{cell-width}
use Rattle.sheet.proofs.Laws.Line.{ascend-parts, ascend-most, line-width}
use Rattle.roundtrip.specs.Returned.{Fit}

pub record Lined (l : List ℕ) (s : Sheet) : Type 0 where
  pub width : length l ≡ 80
  pub ascends : ascend (length s.name) s.cells ≡ true
  pub fit : Fit s.cells
  pub behind : drop (length s.name) l ≡ cells_from (length s.name) s.cells

abbrev pub Stand : List ℕ → List Cell → Type 0
Stand l [] = Unit {0}
Stand l (c ∷ rest) = (drop (columns_of c).start l ≡ cell_bytes c ++ cells_from (columns_of c).end rest) × Stand l rest

pub record Held (l : List ℕ) (c : Cell) : Type 0 where
  pub reach : (columns_of c).end ≤ length l
  pub fits : cell_fits c ≡ true
  pub part : part_of l (columns_of c) ≡ cell_bytes c

abbrev pub AllHeld : List ℕ → List Cell → Type 0
AllHeld l [] = Unit {0}
AllHeld l (c ∷ rest) = Held l c × AllHeld l rest

-- ---- the line from a column on, and further
further : (l : List ℕ) (a b : ℕ) (t more : List ℕ) → a ≤ b → drop a l ≡ t ++ more → length t ≡ b - a → drop b l ≡ more
further l a b t more h e n =
    let there : a + (b - a) ≡ b = omega arith in
    ap (λ (k : ℕ). drop k l) (sym there) ∙ sym (drop-drop (b - a) a l) ∙ ap (drop (b - a)) e ∙ drop_at t more (b - a) n

cells_stand : (l : List ℕ) (column : ℕ) (cells : List Cell) → ascend column cells ≡ true → drop column l ≡ cells_from column cells → Stand l cells
unfolding cells_from
cells_stand l column [] h e = tt
cells_stand l column (c ∷ rest) h e =
    let a = ascend-parts column c rest h in
    let start = (columns_of c).start in
    let end = (columns_of c).end in
    let more = cells_from end rest in
    let here = further l column start (blanks (start - column)) (cell_bytes c ++ more) a.after e (blanks-width (start - column)) in
    (here, cells_stand l end rest a.more (further l start end (cell_bytes c) more (omega (arith, a.wide)) here (cell-width c)))

cells-held : (l : List ℕ) (column : ℕ) (cells : List Cell) → length l ≡ 80 → ascend column cells ≡ true → Fit cells → Stand l cells → AllHeld l cells
unfolding part_of
cells-held l column [] n h f s = tt
cells-held l column (c ∷ rest) n h f s =
    let a = ascend-parts column c rest h in
    let end = (columns_of c).end in
    let reach : end ≤ length l = omega (arith, ascend-most end rest a.more) in
    let here : Held l c = record {
      reach = reach;
      fits = f.0;
      part = rw (le-ltb (length l) end reach, s.0) (take_at (cell_bytes c) (cells_from end rest) (end - (columns_of c).start) (cell-width c));
    } in
    (here, cells-held l end rest n a.more f.1 s.1)

-- ---- of a sheet
pub line_lined : (s : Sheet) → ascend (length s.name) s.cells ≡ true → Fit s.cells → Lined (line_of s) s
unfolding line_of
line_lined s h f = record {
  width = line-width s h;
  ascends = h;
  fit = f;
  behind = drop_at s.name (cells_from (length s.name) s.cells) (length s.name) refl;
}

module _ {l : List ℕ} {s : Sheet} (h : Lined l s) where
  pub lined_stand : Stand l s.cells
  lined_stand = cells_stand l (length s.name) s.cells h.ascends h.behind

  pub lined_held : AllHeld l s.cells
  lined_held = cells-held l (length s.name) s.cells h.width h.ascends h.fit lined_stand
