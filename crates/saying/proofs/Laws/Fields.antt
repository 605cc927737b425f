-- The rows of a record are within the bounds that the words have for them, since its kind's table is: `fields_sound`, of a line of at most 1,024 bytes,
-- each below 256, for the rows that show something.
-- Assumes nothing.
use Prim.Native.Nat.{ℕ, zero, suc, ◌+◌, ◌-◌, ◌^◌, ◌≤◌, ◌<◌}
use mathlib.Core.Path.{◌≡◌, refl, ◌∙◌}
use mathlib.Core.Bool.{Bool, true, false, cond}
use mathlib.Core.List.{List, [], ◌∷◌}
use native.Mathlib.Omega.{arith}
use borrow.Author.Tests.{ltb-true}
use lib.Dec.{ltb, eqb}
use lib.IntN.{ℤ, pos, negsuc}
use lib.ListN.{length, get_or, take, drop, length-take, length-drop}
use mir.Syntax.{w64}
use mir.Val.{to_z, of_z, sel}
use Rattle.field.proofs.Laws.Fields.{signed-held, charge-held, span_within}
use Rattle.field.specs.Charge.{charge_at}
use Rattle.field.specs.Number.{signed_at}
use Rattle.field.specs.Table.{Entry}
use Rattle.field.specs.Table.Entry.{u, i, r, t, c, c?, a, u-rest, x, t_within, t-rest, t-end, charge, known, given, unwritten, triples}
use Rattle.field.specs.Text.{text_of, shifted, text_at, text_within, text_from, end_text_from, character_at, optional_at}
use Rattle.kind.specs.declared.Kind.{Kind}
use Rattle.lexitem.proofs.Laws.Kinds.{fields-shown}
use Rattle.lexitem.specs.Describe.{fields_by, item_of, fields_of}
use Rattle.lexitem.specs.Shown.{shown_by, shown, insert, sorted, keep, held}
use Rattle.line.specs.Columns.{part_of, reached_of, rest_of}
use Rattle.line.specs.Given.{Given}
use Rattle.line.specs.declared.columns.Columns.{Columns}
use Rattle.line.specs.declared.text.Character.TheVariants.{At, Unreached, Absent}
use Rattle.line.specs.declared.text.Text.{Text}
use Rattle.listing.proofs.Laws.Room.{text-most, within-most, from-most, end-most}
use Rattle.number.specs.Trim.{span_of, kept}
use Rattle.row.specs.declared.Row.{Row}
use Rattle.row.specs.declared.Value.{Value}
use Rattle.row.specs.declared.Value.TheVariants.{Unsigned, Signed, Real, Factor, Words, One, Flag, Nothing}
use Rattle.seqres.specs.Seqres.{triples_from, triple_text, triple_row, triple_rows}
use Rattle.wording.specs.Fields.{twos}
use Rattle.saying.specs.Said.{signed_in}
use Rattle.saying.proofs.Laws.Pairs.{All, all_append}
use Rattle.saying.proofs.Laws.Tables.{Narrow, narrow-kind}
use Rattle.saying.proofs.Laws.Rows.{SoundText, SoundCharacter, SoundValue, Sound}

-- ---- signed numbers, by what the machine reads back from their bits
same-either : (b : Bool) (y z : ℤ) → cond b y z ≡ sel b y z
same-either true y z = refl
same-either false y z = refl

signed_back : (z : ℤ) → signed_in (twos z) ≡ to_z w64 (of_z w64 z)
signed_back (pos n) = same-either (ltb n (2 ^ 63)) _ _
signed_back (negsuc n) = same-either (ltb (2 ^ 64 - suc n) (2 ^ 63)) _ _

-- ---- texts
text-place : (place n m : ℕ) → place ≤ m → (text_of place n).place ≤ m
text-place place n m h = go (eqb n 0)
  where
    go : (b : Bool) → (cond {A = Text} b (record { place = 0; length = 0 }) (record { place = place; length = n })).place ≤ m
    go true = omega arith
    go false = h

shifted-place : (start : ℕ) (part : List ℕ) → (shifted start (span_of part)).place ≤ start + length part
shifted-place start part =
    text-place (start + (span_of part).place) (span_of part).length (start + length part) (omega (arith, span_within part))

module _ (l : List ℕ) where
  part-le : (at : Columns) → length (part_of l at) ≤ length l
  unfolding part_of
  part-le at = go (ltb (length l) at.end)
    where
      go : (b : Bool) → length (cond b [] (take (at.end - at.start) (drop at.start l))) ≤ length l
      go true = omega arith
      go false = simp (length-take, length-drop) (omega arith)

  reached-le : (at : Columns) → length (reached_of l at) ≤ length l
  unfolding reached_of
  reached-le at = simp (length-take, length-drop) (omega arith)

  rest_le : (start : ℕ) → length (rest_of l start) ≤ length l
  unfolding rest_of
  rest_le start = simp length-drop (omega arith)

module _ (g : Given) (long : length g.line ≤ 1024) (low : (place : ℕ) → place < length g.line → get_or g.line place 256 < 256) where
  abbrev l : List ℕ
  l = g.line

  text_sound : (at : Columns) → at.start < 1024 → at.end < 1024 → SoundText (text_at l at)
  unfolding text_at
  text_sound at s e =
      (omega (arith, shifted-place at.start (part_of l at), part-le l at), omega (arith, text-most l at))

  within_sound : (at : Columns) → at.start < 1024 → at.end < 1024 → SoundText (text_within l at)
  unfolding text_within
  within_sound at s e =
      (omega (arith, shifted-place at.start (reached_of l at), reached-le l at), omega (arith, within-most l at))

  from_sound : (start : ℕ) → start < 1024 → SoundText (text_from l start)
  unfolding text_from
  from_sound start s = (omega (arith, shifted-place start (rest_of l start), rest_le l start), omega (arith, from-most l start))

  end_sound : (start : ℕ) → start < 1024 → SoundText (end_text_from l start)
  unfolding end_text_from
  end_sound start s = (omega (arith, text-place start (kept (rest_of l start)) start (omega arith)), omega (arith, end-most l start))

  -- ---- characters
  character_sound : (column : ℕ) → SoundCharacter l (character_at l column)
  unfolding character_at
  character_sound column = go (ltb column (length l)) refl
    where
      go : (b : Bool) → ltb column (length l) ≡ b → SoundCharacter l (cond b (At column) Unreached)
      go true e = let h = ltb-true column (length l) e in (h, low column h)
      go false e = tt

  optional_sound : (column : ℕ) → SoundCharacter l (optional_at l column)
  unfolding optional_at
  optional_sound column = go (ltb column (length l)) (eqb (get_or l column 0) 32) refl
    where
      go : (b blank : Bool) → ltb column (length l) ≡ b → SoundCharacter l (cond b (cond blank Absent (At column)) Absent)
      go true true e = tt
      go true false e = let h = ltb-true column (length l) e in (h, low column h)
      go false blank e = tt

  triples_sound : (k index count : ℕ) → index + k ≤ 13 → All (Sound l) (triple_rows k index count)
  unfolding triple_row
  triples_sound zero index count h = tt
  triples_sound (suc k) index count h = ((omega arith, this (ltb index count)), triples_sound k (index + 1) count (omega arith))
    where
      this : (b : Bool) → SoundValue l (cond {A = Value} b (Words (triple_text index)) Nothing)
      this true = (omega arith, omega arith)
      this false = tt

  -- ---- entries
  entry_sound : (e : Entry) → Narrow e → All (Sound l) (shown_by g e)
  entry_sound (u at) n = ((omega (arith, n.0), tt), tt)
  entry_sound (i at) n = ((omega (arith, n.0), signed_back (signed_at l at) ∙ signed-held l at), tt)
  entry_sound (r at default) n = ((omega (arith, n.0), tt), tt)
  entry_sound (t at) n = ((omega (arith, n.0), text_sound at n.0 n.1), tt)
  entry_sound (c at) n = ((omega (arith, n.0), character_sound at.start), tt)
  entry_sound (c? at) n = ((omega (arith, n.0), optional_sound at.start), tt)
  entry_sound (a at) n = ((omega (arith, n.0), tt), tt)
  entry_sound (u-rest start) n = ((omega (arith, n.0), tt), tt)
  entry_sound (x at) n = ((omega (arith, n.0), (omega (arith, n.0), omega (arith, n.1))), tt)
  entry_sound (t_within at) n = ((omega (arith, n.0), within_sound at n.0 n.1), tt)
  entry_sound (t-rest start) n = ((omega (arith, n.0), from_sound start n.0), tt)
  entry_sound (t-end start) n = ((omega (arith, n.0), end_sound start n.0), tt)
  entry_sound (charge at) n = ((omega (arith, n.0), signed_back (charge_at l at) ∙ charge-held l at), tt)
  entry_sound (known at) n = tt
  entry_sound (given column) n = ((omega (arith, n.0), tt), tt)
  entry_sound (unwritten column) n = ((omega (arith, n.0), tt), tt)
  entry_sound (triples start) n = triples_sound 13 0 (triples_from 13 start l) (omega arith)

  table_sound : (es : List Entry) → All Narrow es → All (Sound l) (shown g es)
  table_sound [] h = tt
  table_sound (e ∷ es) h = all_append (Sound l) (shown_by g e) (shown g es) (entry_sound e h.0) (table_sound es h.1)

  -- ---- the rows of a record
  insert_sound : (row : Row) (rows : List Row) → Sound l row → All (Sound l) rows → All (Sound l) (insert row rows)
  insert_sound row [] f h = (f, tt)
  insert_sound row (y ∷ rest) f h = go (ltb y.0 row.0) (insert_sound row rest f h.1)
    where
      go : (b : Bool) → All (Sound l) (insert row rest) → All (Sound l) (cond b (y ∷ insert row rest) (row ∷ y ∷ rest))
      go true q = (h.0, q)
      go false q = (f, h)

  sorted_sound : (rows : List Row) → All (Sound l) rows → All (Sound l) (sorted rows)
  sorted_sound [] h = tt
  sorted_sound (row ∷ rest) h = insert_sound row (sorted rest) h.0 (sorted_sound rest h.1)

  keep_sound : (v : Value) (row : Row) (rest : List Row) → Sound l row → All (Sound l) rest → All (Sound l) (keep v row rest)
  keep_sound (Unsigned n) row rest f h = (f, h)
  keep_sound (Signed n) row rest f h = (f, h)
  keep_sound (Real y places) row rest f h = (f, h)
  keep_sound (Factor y) row rest f h = (f, h)
  keep_sound (Words text) row rest f h = (f, h)
  keep_sound (One character) row rest f h = (f, h)
  keep_sound (Flag b) row rest f h = (f, h)
  keep_sound Nothing row rest f h = h

  held_sound : (rows : List Row) → All (Sound l) rows → All (Sound l) (held rows)
  held_sound [] h = tt
  held_sound (row ∷ rest) h = keep_sound row.1 row (held rest) h.0 (held_sound rest h.1)

  pub fields_sound : (k : Kind) → All (Sound l) (held (fields_of (item_of k g)))
  fields_sound k =
      rw (← (fields-shown g k).0) (held_sound (sorted (shown g (fields_by k g))) (sorted_sound (shown g (fields_by k g)) (table_sound (fields_by k g) (narrow-kind k g))))
