-- Rows that show nothing add no bytes, and no record has more than sixteen rows: so its sixteen show its fields.
--     fields-padded     sixteen rows show what the fields show
-- Assumes nothing.
use Prim.Native.Nat.{ℕ}
use mathlib.Core.Path.{◌≡◌, refl}
use mathlib.Core.List.{List}
use Rattle.lexitem.specs.declared.item.LexItem.{LexItem}
use Rattle.lexitem.specs.Describe.{fields_of}
use Rattle.lexitem.proofs.Laws.Kinds.{rows_sixteen}
use Rattle.row.specs.Rows.{padded}
use Rattle.layout.specs.Row.{row_bytes, rows_bytes}
use Rattle.layout.proofs.Laws.Each.{each-padded}

pub fields-padded : (l : List ℕ) (item : LexItem) → rows_bytes l (padded 16 (fields_of item)) ≡ rows_bytes l (fields_of item)
unfolding row_bytes
fields-padded l item = each-padded (row_bytes l) refl 16 (fields_of item) (rows_sixteen item)
