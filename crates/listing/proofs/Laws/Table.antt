-- How many bytes the rows of a table take at most.
--     table_room, shown-room     what a table shows takes no more than the room of its entries
--     sorted-room               whose order doesn't count
--     rows-held                 nor rows that show nothing
-- Assumes nothing.
use Prim.Native.Nat.{ℕ, suc, ◌+◌, ◌-◌, ◌*◌, ◌≤◌}
use mathlib.Core.Path.{◌≡◌, refl}
use mathlib.Core.Bool.{Bool, true, false, cond}
use mathlib.Core.List.{List, [], ◌∷◌, ◌++◌}
use native.Mathlib.Omega.{arith}
use lib.ListN.{length}
use lib.Dec.{ltb, lit≤}
use Rattle.field.specs.Table.{Entry}
use Rattle.field.specs.Table.Entry.{u, i, r, t, c, c?, a, u-rest, x, t_within, t-rest, t-end, charge, known, given, unwritten, triples}
use Rattle.lexitem.specs.Shown.{shown_by, shown, insert, sorted, keep, held}
use Rattle.line.specs.Given.{Given}
use Rattle.line.specs.declared.columns.Columns.{Columns}
use Rattle.page.specs.Numerals.{decimal}
use Rattle.row.specs.declared.Row.{Row}
use Rattle.row.specs.declared.Value.{Value}
use Rattle.row.specs.declared.Value.TheVariants.{Unsigned, Signed, Real, Factor, Words, One, Flag, Nothing}
use Rattle.seqres.specs.Seqres.{triple_at, triple_text, triples_from, triple_row, triple_rows}
use Rattle.layout.specs.Each.{each}
use Rattle.layout.specs.Row.{row_bytes, rows_bytes}
use Rattle.page.proofs.Laws.Decimal.{decimal-most}
use Rattle.listing.proofs.Laws.Room.{room_of, row_room_of, rows_room, text-most, within-most, from-most, end-most}

abbrev labelled : ℕ → ℕ → ℕ
labelled column room = 3 + length (decimal column) + room

abbrev wide : Columns → ℕ
wide at = 3 * (at.end - at.start)

-- an entry's room, in a line of at most 1,024 bytes
abbrev entry_room : Entry → ℕ
entry_room (u at) = labelled at.start 20
entry_room (i at) = labelled at.start 21
entry_room (r at default) = labelled at.start 16
entry_room (t at) = labelled at.start (wide at)
entry_room (c at) = labelled at.start 3
entry_room (c? at) = labelled at.start 3
entry_room (a at) = labelled at.start 16
entry_room (u-rest start) = labelled start 20
entry_room (x at) = labelled at.start (wide at)
entry_room (t_within at) = labelled at.start (wide at)
entry_room (t-rest start) = labelled start (3 * (1024 - start))
entry_room (t-end start) = labelled start (3 * (1024 - start))
entry_room (charge at) = labelled at.start 21
entry_room (known at) = 0
entry_room (given column) = labelled column 1
entry_room (unwritten column) = labelled column 20
entry_room (triples start) = 32 * 13

abbrev pub table_room : List Entry → ℕ
table_room [] = 0
table_room (e ∷ rest) = entry_room e + table_room rest

triples-room : (k index count : ℕ) → rows_room (triple_rows k index count) ≤ 32 * k
unfolding triple_row
triples-room ℕ.zero index count = omega arith
triples-room (suc k) index count =
    let h = one (ltb index count) in
    let d = decimal-most (triple_at index) in
    let ih = triples-room k (index + 1) count in
    omega arith
  where
    one : (b : Bool) → room_of (cond {A = Value} b (Words (triple_text index)) Nothing) ≤ 9
    one true = lit≤ tt
    one false = lit≤ tt

module _ (g : Given) (h : length g.line ≤ 1024) where
  entry_room_lem : (e : Entry) → rows_room (shown_by g e) ≤ entry_room e
  entry_room_lem (u at) = omega arith
  entry_room_lem (i at) = omega arith
  entry_room_lem (r at default) = omega arith
  entry_room_lem (t at) = omega (arith, text-most g.line at)
  entry_room_lem (c at) = omega arith
  entry_room_lem (c? at) = omega arith
  entry_room_lem (a at) = omega arith
  entry_room_lem (u-rest start) = omega arith
  entry_room_lem (x at) = omega arith
  entry_room_lem (t_within at) = omega (arith, within-most g.line at)
  entry_room_lem (t-rest start) = omega (arith, from-most g.line start)
  entry_room_lem (t-end start) = omega (arith, end-most g.line start)
  entry_room_lem (charge at) = omega arith
  entry_room_lem (known at) = omega arith
  entry_room_lem (given column) = omega arith
  entry_room_lem (unwritten column) = omega arith
  entry_room_lem (triples start) = triples-room 13 0 (triples_from 13 start g.line)

rows_append : (xs ys : List Row) → rows_room (xs ++ ys) ≡ rows_room xs + rows_room ys
rows_append [] ys = omega arith
rows_append (row ∷ xs) ys = let ih = rows_append xs ys in omega arith

pub shown-room : (g : Given) (es : List Entry) → length g.line ≤ 1024 → rows_room (shown g es) ≤ table_room es
shown-room g [] h = omega arith
shown-room g (e ∷ es) h = omega (arith, rows_append (shown_by g e) (shown g es), entry_room_lem g h e, shown-room g es h)

insert-room : (row : Row) (rows : List Row) → rows_room (insert row rows) ≡ row_room_of row + rows_room rows
insert-room row [] = omega arith
insert-room row (y ∷ rest) = go (ltb y.0 row.0) (insert-room row rest)
  where
    go : (b : Bool) → rows_room (insert row rest) ≡ row_room_of row + rows_room rest
        → rows_room (cond b (y ∷ insert row rest) (row ∷ y ∷ rest)) ≡ row_room_of row + rows_room (y ∷ rest)
    go true ih = omega arith
    go false ih = omega arith

pub sorted-room : (rows : List Row) → rows_room (sorted rows) ≡ rows_room rows
sorted-room [] = refl
sorted-room (row ∷ rows) = omega (arith, insert-room row (sorted rows), sorted-room rows)

-- rows that show nothing take no bytes
pub rows-held : (l : List ℕ) (rows : List Row) → rows_bytes l rows ≡ rows_bytes l (held rows)
unfolding each row_bytes
rows-held l [] = refl
rows-held l (row ∷ rest) = go row.1 (rows-held l rest)
  where
    go : (v : Value) → rows_bytes l rest ≡ rows_bytes l (held rest)
        → rows_bytes l ((row.0, v) ∷ rest) ≡ rows_bytes l (keep v (row.0, v) (held rest))
    go (Unsigned n) ih = rw ih refl
    go (Signed n) ih = rw ih refl
    go (Real y places) ih = rw ih refl
    go (Factor y) ih = rw ih refl
    go (Words text) ih = rw ih refl
    go (One character) ih = rw ih refl
    go (Flag b) ih = rw ih refl
    go Nothing ih = ih
