-- A row that an entry shows is one of the record's.
--     In                    a row is in a list
--     left_in, right_in     and so in a longer one
--     record_in             one that shows something, of those that the kind's table shows, is a row of the record
-- Assumes nothing.
use Prim.Native.Nat.{ℕ}
use mathlib.Core.Path.{◌≡◌, refl}
use mathlib.Core.Bool.{Bool, true, false, cond}
use mathlib.Core.List.{List, [], ◌∷◌, ◌++◌}
use mathlib.Core.Logic.{◌⊎◌, inl, inr}
use lib.Dec.{ltb}
use Rattle.kind.specs.declared.Kind.{Kind}
use Rattle.lexitem.specs.Describe.{fields_by, item_of, fields_of}
use Rattle.lexitem.specs.Shown.{shown, insert, sorted, keep, held}
use Rattle.lexitem.proofs.Laws.Kinds.{fields-shown}
use Rattle.line.specs.Given.{Given}
use Rattle.row.specs.Rows.{◌is◌}
use Rattle.row.specs.declared.Row.{Row}
use Rattle.row.specs.declared.Value.{Value}
use Rattle.row.specs.declared.Value.TheVariants as value

abbrev pub In : Row → List Row → Type 0
In row [] = ⊥
In row (y ∷ rest) = (row ≡ y) ⊎ In row rest

-- ---- from what the entries show to the rows of the record
insert_in : (row y : Row) (rows : List Row) → (row ≡ y) ⊎ In row rows → In row (insert y rows)
insert_in row y [] h = h
insert_in row y (z ∷ rows) h = go (ltb z.0 y.0) h (λ w. insert_in row y rows w)
  where
    go : (b : Bool) → (row ≡ y) ⊎ ((row ≡ z) ⊎ In row rows) → ((row ≡ y) ⊎ In row rows → In row (insert y rows))
        → In row (cond b (z ∷ insert y rows) (y ∷ z ∷ rows))
    go true (inl e) on = inr (on (inl e))
    go true (inr (inl e)) on = inl e
    go true (inr (inr m)) on = inr (on (inr m))
    go false w on = w

sorted_in : (row : Row) (rows : List Row) → In row rows → In row (sorted rows)
sorted_in row [] h = h
sorted_in row (y ∷ rows) (inl e) = insert_in row y (sorted rows) (inl e)
sorted_in row (y ∷ rows) (inr m) = insert_in row y (sorted rows) (inr (sorted_in row rows m))

-- a row that shows something
module _ (column : ℕ) (v : Value) (some : (rest : List Row) → keep v (column is v) rest ≡ column is v ∷ rest) where
  keep_in : (w : Value) (y : Row) (rest : List Row) → In (column is v) rest → In (column is v) (keep w y rest)
  keep_in (value.Unsigned n) y rest m = inr m
  keep_in (value.Signed n) y rest m = inr m
  keep_in (value.Real z places) y rest m = inr m
  keep_in (value.Factor z) y rest m = inr m
  keep_in (value.Words text) y rest m = inr m
  keep_in (value.One character) y rest m = inr m
  keep_in (value.Flag b) y rest m = inr m
  keep_in value.Nothing y rest m = m

  held_in : (rows : List Row) → In (column is v) rows → In (column is v) (held rows)
  held_in [] h = h
  held_in (y ∷ rows) (inl e) = rw (← e, some (held rows)) (inl refl)
  held_in (y ∷ rows) (inr m) = keep_in y.1 y (held rows) (held_in rows m)

kept_in : (row y : Row) (w : Value) (rest : List Row) → In row (keep w y rest) → (row ≡ y) ⊎ In row rest
kept_in row y (value.Unsigned n) rest m = m
kept_in row y (value.Signed n) rest m = m
kept_in row y (value.Real z places) rest m = m
kept_in row y (value.Factor z) rest m = m
kept_in row y (value.Words text) rest m = m
kept_in row y (value.One character) rest m = m
kept_in row y (value.Flag b) rest m = m
kept_in row y value.Nothing rest m = inr m

from-held : (row : Row) (rows : List Row) → In row (held rows) → In row rows
from-held row [] h = h
from-held row (y ∷ rows) h = go (kept_in row y y.1 (held rows) h) (λ m. from-held row rows m)
  where
    go : (row ≡ y) ⊎ In row (held rows) → (In row (held rows) → In row rows) → In row (y ∷ rows)
    go (inl e) on = inl e
    go (inr m) on = inr (on m)

pub left_in : (row : Row) (s z : List Row) → In row s → In row (s ++ z)
left_in row [] z h = absurd h
left_in row (y ∷ s) z (inl e) = inl e
left_in row (y ∷ s) z (inr m) = inr (left_in row s z m)

pub right_in : (row : Row) (s z : List Row) → In row z → In row (s ++ z)
right_in row [] z h = h
right_in row (y ∷ s) z h = inr (right_in row s z h)

module _ (k : Kind) (g : Given) where
  pub record_in : (column : ℕ) (v : Value) → ((rest : List Row) → keep v (column is v) rest ≡ column is v ∷ rest)
      → In (column is v) (shown g (fields_by k g)) → In (column is v) (fields_of (item_of k g))
  record_in column v some m =
      from-held (column is v) (fields_of (item_of k g))
      (rw (← (fields-shown g k).0) (held_in column v some (sorted (shown g (fields_by k g))) (sorted_in (column is v) (shown g (fields_by k g)) m)))
