-- When a record's line is refused, in words of numbers.
--     item-ascends      the columns of every record's line ascend
--     record_when       the answer for every record, and the lent bytes
--     other-refused     a record of another kind is refused for its name
--     row_first         a row above 2 is refused before every other field
-- Assumes nothing.
use mathlib.Core.Path.{◌≡◌, refl}
use mathlib.Core.Bool.{true}
use mathlib.Core.Logic.{inl}
use mathlib.Core.List.{List}
use Prim.Native.Nat.{ℕ, ◌<◌}
use lib.ListN.{length}
use Rattle.line.specs.Columns.{◌⋯◌}
use Rattle.sheet.specs.Sheet.{Written, Sheet, ascend, Writes, other_kind}
use Rattle.sheet.specs.When.{When}
use Rattle.std.specs.Prelude.{Err}
use Rattle.sheet.specs.declared.Unwritten.TheVariants.{NoFit}
use Rattle.sheet.proofs.Laws.When.{written_when}
use Rattle.transformation.specs.declared.record.NumberedRow.{NumberedRow}
use Rattle.transformation.specs.declared.record.MtriX.{MtriX}
use Rattle.printer.proofs.Laws.Sheets.{name-six}
use Rattle.lexitem.specs.declared.item.LexItem.{LexItem}
use Rattle.lexitem.specs.declared.item.LexItem.TheVariants as item
use Rattle.writer.specs.Writer.{item_sheet}

-- a sheet's columns ascend behind its name
abbrev pub Ascending : Sheet → Type 0
Ascending s = ascend (length s.name) s.cells ≡ true

module _ (line standIn name asked : List ℕ) where
  pub item-ascends : (i : LexItem) → Ascending (item_sheet i line standIn name asked)
  item-ascends item.Empty = refl
  item-ascends (item.Header v) = refl
  item-ascends (item.Remark v) = refl
  item-ascends (item.Atom v) = rw (name-six v.hetero) refl
  item-ascends (item.Anisou v) = refl
  item-ascends (item.Crystal v) = refl
  item-ascends (item.Scale v) = refl
  item-ascends (item.OrigX v) = refl
  item-ascends (item.MtriX v) = refl
  item-ascends (item.Model v) = refl
  item-ascends (item.Master v) = refl
  item-ascends (item.Seqres v) = refl
  item-ascends (item.Dbref v) = refl
  item-ascends (item.Dbref1 v) = refl
  item-ascends (item.Dbref2 v) = refl
  item-ascends (item.Seqadv v) = refl
  item-ascends (item.Modres v) = refl
  item-ascends (item.SSBond v) = refl
  item-ascends item.EndModel = refl
  item-ascends item.Ter = refl
  item-ascends item.End = refl

pub record_when : (item : LexItem) (line standIn name asked old new : List ℕ) (r : Written) → Writes old (item_sheet item line standIn name asked) r new
    → When old (item_sheet item line standIn name asked) r new
record_when item line standIn name asked old new r w =
    written_when (item_sheet item line standIn name asked) (item-ascends line standIn name asked item) old new r w

pub other-refused : (item : LexItem) (line standIn name asked old new : List ℕ) (r : Written) → item_sheet item line standIn name asked ≡ other_kind
    → Writes old (item_sheet item line standIn name asked) r new → r ≡ Err (NoFit (0 ⋯ 6))
other-refused item line standIn name asked old new r e w =
    ((record_when item line standIn name asked old new r w).refused (0 ⋯ 6)).1 (rw e (inl (tt, refl)))

-- the row of a SCALEn, an ORIGXn and an MTRIXn
pub data RowOf : LexItem → ℕ → Type 0 where
  scale : (v : NumberedRow) → RowOf (item.Scale v) v.row
  origx : (v : NumberedRow) → RowOf (item.OrigX v) v.row
  mtrix : (v : MtriX) → RowOf (item.MtriX v) v.row

-- no field is in front of it, so what else doesn't fit is not told
pub row_first : {i : LexItem} {row : ℕ} → RowOf i row → 2 < row → (line standIn name asked old new : List ℕ) (r : Written)
    → Writes old (item_sheet i line standIn name asked) r new → r ≡ Err (NoFit (5 ⋯ 6))
row_first (RowOf.scale v) high line standIn name asked old new r w =
    ((record_when (item.Scale v) line standIn name asked old new r w).refused (5 ⋯ 6)).1 (inl (high, refl))
row_first (RowOf.origx v) high line standIn name asked old new r w =
    ((record_when (item.OrigX v) line standIn name asked old new r w).refused (5 ⋯ 6)).1 (inl (high, refl))
row_first (RowOf.mtrix v) high line standIn name asked old new r w =
    ((record_when (item.MtriX v) line standIn name asked old new r w).refused (5 ⋯ 6)).1 (inl (high, refl))
