-- A record holds what its kind's table says, and nothing else: each present field's column, sort and value are an entry's, read from the line.
--     record-shown             the rows of an accepted record are what the entries show, in ascending columns, none forgotten and none added
--     record-kind              and the record is of the line's kind, with its row or with what makes a HETATM of an atom
--     row_there, row-shown     an accepted record shows what an entry shows, and nothing else in that column
--     held-has, held_in        rows that show something are held, and all that is held is among the rows
-- Assumes nothing.
use Prim.Native.Nat.{ℕ, ◌<◌}
use mathlib.Core.Path.{◌≡◌, refl, sym, ap, ◌∙◌}
use mathlib.Core.Logic.{◌⊎◌, inl, inr, ⊎_elim}
use mathlib.Core.Bool.{Bool, true, false, cond}
use mathlib.Core.List.{List, [], ◌∷◌, Memᴰ}
use Rattle.std.specs.Prelude.{Ok}
use native.Mathlib.Omega.{arith}
use borrow.Author.Tests.{ltb-true}
use lib.Dec.{ltb}
use Rattle.number.proofs.Laws.Choice.{and_left, and_right}
use Rattle.field.specs.Table.{Entry}
use Rattle.line.specs.Given.{Given}
use Rattle.lexitem.specs.Describe.{fields_by, fields_of, kind_of_item}
use Rattle.lexitem.specs.Shown.{shown, shown_by, insert, sorted, ascending, keep, held}
use Rattle.lexitem.specs.declared.item.LexItem.{LexItem}
use Rattle.lexitem.proofs.Laws.Kinds.{fields-shown}
use Rattle.lexer.specs.Lexed.{lexed}
use Rattle.lexer.specs.Refusals as refusals
use Rattle.lexer.specs.Refusals.{Input}
use Rattle.lexer.proofs.Laws.Accepted.{accepted-item}
use Rattle.row.specs.Rows.{◌is◌}
use Rattle.row.specs.declared.Row.{Row}
use Rattle.row.specs.declared.Value.{Value}
use Rattle.row.specs.declared.Value.TheVariants.{Unsigned, Signed, Real, Factor, Words, One, Flag, Nothing}
use Rattle.promises.specs.Reals.{table_in}
use Rattle.promises.proofs.Laws.Kinds.{item-kind}

pub record-shown : (n : Input) (item : LexItem) → (lexed n).outcome ≡ Ok item
    → (held (fields_of item) ≡ held (sorted (shown (refusals.given n) (fields_by (refusals.kind n) (refusals.given n))))) × (ascending (fields_of item) ≡ true)
record-shown n item accepted =
    let shows = fields-shown (refusals.given n) (refusals.kind n) in
    rw (accepted-item n item accepted) (sym shows.0, shows.1)

pub record-kind : (n : Input) (item : LexItem) → (lexed n).outcome ≡ Ok item → kind_of_item item ≡ refusals.kind n
record-kind n item accepted = rw (accepted-item n item accepted) (item-kind (refusals.kind n) (refusals.given n))

-- ---- a row among others
-- rows that show something are kept, and no others
kept_or_not : (v : Value) (row : Row) (rest : List Row) → (keep v row rest ≡ row ∷ rest) ⊎ (keep v row rest ≡ rest)
kept_or_not (Unsigned n) row rest = inl refl
kept_or_not (Signed n) row rest = inl refl
kept_or_not (Real y places) row rest = inl refl
kept_or_not (Factor y) row rest = inl refl
kept_or_not (Words text) row rest = inl refl
kept_or_not (One character) row rest = inl refl
kept_or_not (Flag b) row rest = inl refl
kept_or_not Nothing row rest = inr refl

module _ (row : Row) where
  shown-has : (g : Given) (es : List Entry) (e : Entry) → Memᴰ e es → Memᴰ row (shown_by g e) → Memᴰ row (shown g es)
  shown-has g [] e m k = absurd (mathlib.Core.List.Memᴰ.not-nil m)
  shown-has g (y ∷ es) e m k =
      ⊎_elim
      (λ same. mathlib.Core.List.Memᴰ.append_left (shown g es) (rw same at k))
      (λ later. mathlib.Core.List.Memᴰ.append_right (shown_by g y) (shown-has g es e later k))
      (mathlib.Core.List.Memᴰ.cases_cons m)

  insert-has : (y : Row) (rows : List Row) → Memᴰ row (y ∷ rows) → Memᴰ row (insert y rows)
  insert-has y [] m = m
  insert-has y (z ∷ rest) m = go (ltb z.0 y.0) (insert-has y rest)
    where
      go : (b : Bool) → (Memᴰ row (y ∷ rest) → Memᴰ row (insert y rest)) → Memᴰ row (cond b (z ∷ insert y rest) (y ∷ z ∷ rest))
      go false on = m
      go true on =
          ⊎_elim
          (λ same. mathlib.Core.List.Memᴰ.tail (on (mathlib.Core.List.Memᴰ.head same)))
          (λ later. ⊎_elim (λ same. mathlib.Core.List.Memᴰ.head same) (λ more. mathlib.Core.List.Memᴰ.tail (on (mathlib.Core.List.Memᴰ.tail more))) (mathlib.Core.List.Memᴰ.cases_cons later))
          (mathlib.Core.List.Memᴰ.cases_cons m)

  sorted-has : (rows : List Row) → Memᴰ row rows → Memᴰ row (sorted rows)
  sorted-has [] m = m
  sorted-has (y ∷ rows) m =
      insert-has y (sorted rows)
      (⊎_elim (λ same. mathlib.Core.List.Memᴰ.head same) (λ later. mathlib.Core.List.Memᴰ.tail (sorted-has rows later)) (mathlib.Core.List.Memᴰ.cases_cons m))

  pub held-has : ((rest : List Row) → keep row.1 row rest ≡ row ∷ rest) → (rows : List Row) → Memᴰ row rows → Memᴰ row (held rows)
  held-has keeps [] m = m
  held-has keeps (y ∷ rows) m =
      ⊎_elim
      (λ same. rw (← same, keeps (held rows)) (mathlib.Core.List.Memᴰ.head refl))
      (λ later.
      let m : Memᴰ row (held rows) = held-has keeps rows later in
      ⊎_elim (λ kept. rw kept (mathlib.Core.List.Memᴰ.tail m)) (λ left. rw left m) (kept_or_not y.1 y (held rows)))
      (mathlib.Core.List.Memᴰ.cases_cons m)

  pub held_in : (rows : List Row) → Memᴰ row (held rows) → Memᴰ row rows
  held_in [] m = m
  held_in (y ∷ rows) m =
      ⊎_elim
      (λ kept.
      let k : Memᴰ row (y ∷ held rows) = rw kept at m in
      ⊎_elim (λ same. mathlib.Core.List.Memᴰ.head same) (λ later. mathlib.Core.List.Memᴰ.tail (held_in rows later)) (mathlib.Core.List.Memᴰ.cases_cons k))
      (λ left. mathlib.Core.List.Memᴰ.tail (held_in rows (rw left at m)))
      (kept_or_not y.1 y (held rows))

-- of ascending rows no two have one column
ascends : (y : Row) (rows : List Row) → ascending (y ∷ rows) ≡ true → ascending rows ≡ true
ascends y [] h = refl
ascends y (next ∷ rest) h = and_right (ltb y.0 next.0) (ascending (next ∷ rest)) h

above : (y : Row) (rows : List Row) → ascending (y ∷ rows) ≡ true → (row : Row) → Memᴰ row rows → y.0 < row.0
above y [] h row m = absurd (mathlib.Core.List.Memᴰ.not-nil m)
above y (next ∷ rest) h row m =
    let first : y.0 < next.0 = ltb-true y.0 next.0 (and_left (ltb y.0 next.0) (ascending (next ∷ rest)) h) in
    ⊎_elim
    (λ same. rw same first)
    (λ later. omega (arith, first, above next rest (ascends y (next ∷ rest) h) row later))
    (mathlib.Core.List.Memᴰ.cases_cons m)

alone : (rows : List Row) → ascending rows ≡ true → (q r : Row) → Memᴰ q rows → Memᴰ r rows → q.0 ≡ r.0 → q ≡ r
alone [] h q r m k e = absurd (mathlib.Core.List.Memᴰ.not-nil m)
alone (y ∷ rows) h q r m k e = go (mathlib.Core.List.Memᴰ.cases_cons m) (mathlib.Core.List.Memᴰ.cases_cons k) (alone rows (ascends y rows h) q r)
  where
    go : (q ≡ y) ⊎ Memᴰ q rows → (r ≡ y) ⊎ Memᴰ r rows → (Memᴰ q rows → Memᴰ r rows → q.0 ≡ r.0 → q ≡ r) → q ≡ r
    go (inl a) (inl b) on = a ∙ sym b
    go (inl a) (inr b) on =
        let apart : y.0 < r.0 = above y rows h r b in
        let same : q.0 ≡ y.0 = ap (λ (row : Row). row.0) a in
        absurd (omega (arith, apart, same, e))
    go (inr a) (inl b) on =
        let apart : y.0 < q.0 = above y rows h q a in
        let same : r.0 ≡ y.0 = ap (λ (row : Row). row.0) b in
        absurd (omega (arith, apart, same, e))
    go (inr a) (inr b) on = on a b e

-- ---- of a record
module _ (n : Input) (item : LexItem) (accepted : (lexed n).outcome ≡ Ok item) (e : Entry) (m : Memᴰ e (table_in n)) (column : ℕ) (v : Value)
    (shows : shown_by (refusals.given n) e ≡ column is v ∷ []) (keeps : (rest : List Row) → keep v (column is v) rest ≡ column is v ∷ rest) where
  pub row_there : Memᴰ (column is v) (fields_of item)
  row_there =
      let row : Row = column is v in
      let rows = shown (refusals.given n) (table_in n) in
      let there : Memᴰ row rows = shown-has row (refusals.given n) (table_in n) e m (rw shows (mathlib.Core.List.Memᴰ.head refl)) in
      held_in row (fields_of item) (rw (record-shown n item accepted).0 (held-has row keeps (sorted rows) (sorted-has row rows there)))

  pub row-shown : (w : Value) → Memᴰ (column is w) (fields_of item) → w ≡ v
  row-shown w k =
      ap (λ (row : Row). row.1) (alone (fields_of item) (record-shown n item accepted).1 (column is w) (column is v) k row_there refl)
