-- A sheet whose cells were drawn one behind the other is written.
--     ascend-parts         what ascending columns say of the first cell and of the rest
--     cells-width          the cells from a column on fill the line from there
--     line-width           a line has 80 bytes
--     drawn-writes         drawn, ruled off and ended, a sheet is written
-- Assumes nothing.
use mathlib.Core.Path.{◌≡◌, refl, sym, ap, ◌∙◌}
use Prim.Native.Nat.{ℕ, ◌-◌, ◌^◌, ◌≤◌, ◌<◌}
use native.Mathlib.Omega.{arith}
use mathlib.Core.Bool.{Bool, true, false, cond, ◌&&◌}
use mathlib.Core.List.{List, [], ◌∷◌, ◌++◌, append_assoc, append-nil}
use borrow.Author.Tests.{leb-true, ltb-true, ltb-false}
use lib.ListN.{length, drop, length-append, drop_of_length-le}
use lib.Dec.{leb, ltb}
use Rattle.std.specs.Prelude.{Option, Some, None, Ok, Err}
use Rattle.line.specs.declared.columns.Columns.{Columns}
use Rattle.page.specs.Page.{Page, page, put}
use Rattle.page.proofs.Laws.Page.{put-append, put-at, put_count, put_front}
use Rattle.cell.specs.Text.{blanks}
use Rattle.sheet.specs.Sheet.{Written, Cell, Sheet, columns_of, cell_fits, cell_bytes, cells_from, line_of, ascend, answer_of, afterwards, Writes}
use Rattle.sheet.specs.Draft.{Draft, draft, begun, missed, inked, drawn, drawn_all, filled, ending, copied, Ends}
use Rattle.sheet.specs.declared.Pen.{Pen}
use Rattle.sheet.specs.declared.Unwritten.TheVariants.{NoFit, NoRoom}
use Rattle.cell.proofs.Laws.Width.{blanks-width}
use Rattle.sheet.proofs.Laws.Width.{cell-width}

-- ---- columns that ascend
both : (a b : Bool) → (a && b) ≡ true → (a ≡ true) × (b ≡ true)
both true b h = (refl, h)
both false b h = (h, cc)

pub record Ascends (column : ℕ) (c : Cell) (rest : List Cell) : Type 0 where
  pub after : column ≤ (columns_of c).start
  pub wide : (columns_of c).start < (columns_of c).end
  pub more : ascend (columns_of c).end rest ≡ true

pub ascend-parts : (column : ℕ) (c : Cell) (rest : List Cell) → ascend column (c ∷ rest) ≡ true → Ascends column c rest
ascend-parts column c rest h =
    let (front, third) = both (leb column (columns_of c).start && ltb (columns_of c).start (columns_of c).end) (ascend (columns_of c).end rest) h in
    let (first, second) = both (leb column (columns_of c).start) (ltb (columns_of c).start (columns_of c).end) front in
    record {
      after = leb-true column (columns_of c).start first;
      wide = ltb-true (columns_of c).start (columns_of c).end second;
      more = third;
    }

pub ascend-most : (column : ℕ) (cells : List Cell) → ascend column cells ≡ true → column ≤ 80
ascend-most column [] h = leb-true column 80 h
ascend-most column (c ∷ rest) h =
    let a = ascend-parts column c rest h in
    omega (arith, ascend-most (columns_of c).end rest a.more, a.after, a.wide)

-- ---- widths
pub cells-width : (column : ℕ) (cells : List Cell) → ascend column cells ≡ true → length (cells_from column cells) ≡ 80 - column
unfolding cells_from
cells-width column [] h = blanks-width (80 - column)
cells-width column (c ∷ rest) h =
    let a = ascend-parts column c rest h in
    let gap = blanks ((columns_of c).start - column) in
    let more = cells_from (columns_of c).end rest in
    omega (
      arith,
      length-append gap (cell_bytes c ++ more),
      length-append (cell_bytes c) more,
      blanks-width ((columns_of c).start - column),
      cell-width c,
      cells-width (columns_of c).end rest a.more,
      ascend-most (columns_of c).end rest a.more,
      a.after,
      a.wide,
    )

module _ (s : Sheet) (h : ascend (length s.name) s.cells ≡ true) where
  pub line-width : length (line_of s) ≡ 80
  unfolding line_of
  line-width =
      omega (
        arith,
        length-append s.name (cells_from (length s.name) s.cells),
        cells-width (length s.name) s.cells h,
        ascend-most (length s.name) s.cells h,
      )

-- ---- the page
pub drawn-page : (d : Draft) (column : ℕ) (cells : List Cell) → d.page.at ≡ column → ascend column cells ≡ true
    → (filled (drawn_all d cells) 80).page ≡ put d.page (cells_from column cells)
unfolding filled cells_from drawn_all drawn inked
drawn-page d column [] e h = rw e refl
drawn-page d column (c ∷ rest) e h =
    let a = ascend-parts column c rest h in
    let gap = blanks ((columns_of c).start - d.page.at) in
    let t = cell_bytes c in
    let more = cells_from (columns_of c).end rest in
    let most = ascend-most (columns_of c).end rest a.more in
    let behind : (put d.page (gap ++ t)).at ≡ (columns_of c).end =
    put-at d.page (gap ++ t) (omega (arith, a.after, a.wide))
    ∙ omega (arith, length-append gap t, blanks-width ((columns_of c).start - d.page.at), cell-width c, a.after, a.wide) in
    drawn-page (drawn d c) (columns_of c).end rest behind a.more
    ∙ sym (put-append d.page (gap ++ t) more)
    ∙ ap (put d.page) (append_assoc gap t more)
    ∙ ap (λ (n : ℕ). put d.page (blanks ((columns_of c).start - n) ++ (t ++ more))) e

-- ---- the answer
pub miss-kept : (d : Draft) (cells : List Cell) (at : Columns) → d.miss ≡ Some at → (drawn_all d cells).miss ≡ Some at
unfolding drawn_all drawn inked
miss-kept d [] at h = h
miss-kept d (c ∷ rest) at h = miss-kept (drawn d c) rest at (rw h (same (cell_fits c)))
  where
    same : (b : Bool) → missed b (Some at) (columns_of c) ≡ Some at
    same true = refl
    same false = refl

pub drawn-answers : (d : Draft) (room : ℕ) (cells : List Cell) → d.miss ≡ None → ending (drawn_all d cells).miss room ≡ answer_of cells room
unfolding drawn_all drawn inked answer_of
drawn-answers d room [] m = rw m refl
drawn-answers d room (c ∷ rest) m = go (cell_fits c) refl (λ e. drawn-answers (drawn d c) room rest e)
  where
    go : (b : Bool) → cell_fits c ≡ b
        → ((drawn d c).miss ≡ None → ending (drawn_all (drawn d c) rest).miss room ≡ answer_of rest room)
        → ending (drawn_all (drawn d c) rest).miss room ≡ cond (cell_fits c) (answer_of rest room) (Err (NoFit (columns_of c)))
    go true f more = more (rw (f, m) refl) ∙ rw f refl
    go false f more =
        ap (λ (m : Option Columns). ending m room) (miss-kept (drawn d c) rest (columns_of c) (rw (f, m) refl)) ∙ rw f refl

-- ---- all of it
room-enough : (miss : Option Columns) (room : ℕ) → ending miss room ≡ Ok tt → 80 ≤ room
room-enough None room e = go (ltb room 80) refl e
  where
    go : (n : Bool) → ltb room 80 ≡ n → cond n (Err NoRoom) (Ok (tt {0})) ≡ Ok (tt {0}) → 80 ≤ room
    go true f e = let z : ◌≡◌ {A = ℕ} 0 1 = cc in absurd (omega arith)
    go false f e = ltb-false room 80 f
room-enough (Some at) room e = let z : ◌≡◌ {A = ℕ} 0 1 = cc in absurd (omega arith)

copied_is : (old line : List ℕ) (miss : Option Columns) (w : Written) → length old < 2 ^ 64 → length line ≡ 80 → ending miss (length old) ≡ w
    → copied old line w ≡ afterwards old line w
copied_is old line miss (Ok u) short long e =
    let room = room-enough miss (length old) e in
    put_front old line short (omega arith) ∙ ap (λ (n : ℕ). line ++ drop n old) long
copied_is old line miss (Err why) short long e = refl

module _ (s : Sheet) (h : ascend (length s.name) s.cells ≡ true) (old zeros : List ℕ) where
  pub drawn-writes : (ruled new : List ℕ) (last : Pen) (r : Written) → length old < 2 ^ 64 → length zeros ≡ 80 → Ends old ruled last.miss r new
      → (d : Draft) → draft ruled last ≡ filled d 80 → d ≡ drawn_all (begun zeros s.name) s.cells → Writes old s r new
  unfolding line_of filled draft begun
  drawn-writes ruled new last r short eighty e d f g =
      let drawn-to : draft ruled last ≡ filled (drawn_all (begun zeros s.name) s.cells) 80 = f ∙ ap (λ (x : Draft). filled x 80) g in
      let name = s.name in
      let line = name ++ cells_from (length name) s.cells in
      let most = ascend-most (length name) s.cells h in
      let long : length line ≡ 80 = line-width s h in
      let counted : (put (page zeros 0) name).at ≡ length name = put_count zeros name (omega arith) in
      let paged : page ruled last.next ≡ put (page zeros 0) line =
      ap (λ (x : Draft). x.page) drawn-to ∙ drawn-page (begun zeros name) (length name) s.cells counted h
      ∙ sym (put-append (page zeros 0) name (cells_from (length name) s.cells)) in
      let over : length zeros ≤ length line = omega arith in
      let is : ruled ≡ line =
      ap (λ (p : Page). p.bytes) paged ∙ put_front zeros line (omega arith) (omega arith)
      ∙ rw (drop_of_length-le zeros over) (append-nil line) in
      let missing : last.miss ≡ (drawn_all (begun zeros name) s.cells).miss = ap (λ (x : Draft). x.miss) drawn-to in
      let answered : r ≡ answer_of s.cells (length old) =
      e.answers ∙ rw missing (drawn-answers (begun zeros name) (length old) s.cells refl) in
      record { answers = answered; leaves = e.leaves ∙ rw is (copied_is old line last.miss r short long (sym e.answers)) }
