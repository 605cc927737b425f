-- How many bytes rows take at most.
--     rows-room         rows take no more than their room, which goes by the sorts of their values and the lengths of their texts
--     text-most, within-most, from-most, end-most     and a text is no longer than its columns
-- Assumes nothing.
use Prim.Native.Nat.{ℕ, suc, ◌+◌, ◌-◌, ◌*◌, ◌≤◌}
use mathlib.Core.Bool.{Bool, true, false, cond}
use mathlib.Core.List.{List, [], ◌∷◌, ◌++◌}
use native.Mathlib.Omega.{arith}
use lib.IntN.{ℤ, pos, negsuc}
use lib.Ieee.{binary64, to_bits}
use lib.ListN.{length, take, drop, length-append, length-take, length-drop}
use lib.Dec.{ltb, leb, eqb, lit≤}
use Rattle.field.specs.Text.{text_of, shifted, text_at, text_within, text_from, end_text_from}
use Rattle.line.specs.Columns.{part_of, reached_of, rest_of}
use Rattle.line.specs.Text.{within_of}
use Rattle.line.specs.declared.columns.Columns.{Columns}
use Rattle.line.specs.declared.text.Character.{Character}
use Rattle.line.specs.declared.text.Character.TheVariants.{At, Unreached, Absent}
use Rattle.line.specs.declared.text.Field.TheVariants as field
use Rattle.line.specs.declared.text.Text.{Text}
use Rattle.number.specs.Trim.{trimmed, kept, leading, span_of}
use Rattle.number.specs.declared.trim.Span.{Span}
use Rattle.number.proofs.Laws.Trim.{trimmed-le, kept-le}
use Rattle.page.specs.Numerals.{decimal, signed_decimal, escaped}
use Rattle.page.proofs.Laws.Decimal.{decimal-most}
use Rattle.page.proofs.Laws.Escaped.{escaped-length}
use Rattle.page.proofs.Laws.Hex.{hex16-length}
use Rattle.row.specs.declared.Row.{Row}
use Rattle.row.specs.declared.Value.{Value}
use Rattle.row.specs.declared.Value.TheVariants.{Unsigned, Signed, Real, Factor, Words, One, Flag, Nothing}
use Rattle.layout.specs.Each.{each}
use Rattle.layout.specs.Row.{present, field_bytes, value_bytes, row_bytes, rows_bytes}

-- ---- numbers
signed-most : (z : ℤ) → length (signed_decimal z) ≤ 21
unfolding signed_decimal
signed-most (pos n) = let h = decimal-most n in omega arith
signed-most (negsuc n) = let h = decimal-most (suc n) in omega arith

-- ---- texts and characters
within-le : (l : List ℕ) (place n : ℕ) → length (within_of l place n) ≤ n
unfolding within_of
within-le l place n = go (leb (place + n) (length l))
  where
    go : (b : Bool) → length (cond b (take n (drop place l)) []) ≤ n
    go true = simp length-take (omega arith)
    go false = omega arith

escaped-most : (t : List ℕ) (n : ℕ) → length t ≤ n → length (escaped t) ≤ 3 * n
escaped-most t n h = let e = (escaped-length t).1 in omega arith

character_most : (l : List ℕ) (c : Character) → length (field_bytes l (field.One c)) ≤ 3
character_most l (At place) = escaped-most (within_of l place 1) 1 (within-le l place 1)
character_most l Unreached = escaped-most (32 ∷ []) 1 (lit≤ tt)
character_most l Absent = let e = escaped-most [] 0 (lit≤ tt) in omega arith

-- ---- rows
abbrev pub room_of : Value → ℕ
room_of (Unsigned n) = 20
room_of (Signed n) = 21
room_of (Real x places) = 16
room_of (Factor x) = 16
room_of (Words t) = 3 * t.length
room_of (One c) = 3
room_of (Flag b) = 1
room_of Nothing = 0

value_room : (l : List ℕ) (v : Value) → length (value_bytes l v) ≤ room_of v
value_room l (Unsigned n) = decimal-most n
value_room l (Signed n) = signed-most n
value_room l (Real x places) = let h = hex16-length (to_bits binary64 x) in omega arith
value_room l (Factor x) = let h = hex16-length (to_bits binary64 x) in omega arith
value_room l (Words t) = escaped-most (within_of l t.place t.length) t.length (within-le l t.place t.length)
value_room l (One c) = character_most l c
value_room l (Flag b) = lit≤ tt
value_room l Nothing = lit≤ tt

abbrev pub row_room_of : Row → ℕ
row_room_of r = 3 + length (decimal r.0) + room_of r.1

row_room : (l : List ℕ) (r : Row) → length (row_bytes l r) ≤ row_room_of r
unfolding row_bytes
row_room l r = go (present r.1)
  where
    go : (b : Bool)
        → length (cond b (102 ∷ [] ++ decimal r.0 ++ 61 ∷ [] ++ value_bytes l r.1 ++ 10 ∷ []) []) ≤ row_room_of r
    go true = let h = value_room l r.1 in simp length-append (omega arith)
    go false = omega arith

abbrev pub rows_room : List Row → ℕ
rows_room [] = 0
rows_room (r ∷ t) = row_room_of r + rows_room t

pub rows-room : (l : List ℕ) (rows : List Row) → length (rows_bytes l rows) ≤ rows_room rows
unfolding each
rows-room l [] = omega arith
rows-room l (r ∷ t) =
    let h = row_room l r in let ih = rows-room l t in simp length-append (omega arith)

-- ---- the lengths of texts
text-le : (place n : ℕ) → (text_of place n).length ≤ n
text-le place n = go (eqb n 0)
  where
    go : (b : Bool) → (cond {A = Text} b (record { place = 0; length = 0 }) (record { place = place; length = n })).length ≤ n
    go true = omega arith
    go false = omega arith

span_le : (t : List ℕ) → (span_of t).length ≤ length t
unfolding span_of
span_le t = go (eqb (length (trimmed t)) 0)
  where
    go : (b : Bool)
        → (cond {A = Span} b (record { place = 0; length = 0 }) (record { place = leading t; length = length (trimmed t) })).length
        ≤ length t
    go true = omega arith
    go false = trimmed-le t

shifted-le : (start : ℕ) (t : List ℕ) → (shifted start (span_of t)).length ≤ length t
shifted-le start t = let h = text-le (start + (span_of t).place) (span_of t).length in let s = span_le t in omega arith

module _ (l : List ℕ) where
  part-le : (at : Columns) → length (part_of l at) ≤ at.end - at.start
  unfolding part_of
  part-le at = go (ltb (length l) at.end)
    where
      go : (b : Bool) → length (cond b [] (take (at.end - at.start) (drop at.start l))) ≤ at.end - at.start
      go true = omega arith
      go false = simp length-take (omega arith)

  pub text-most : (at : Columns) → (text_at l at).length ≤ at.end - at.start
  unfolding text_at
  text-most at = let h = shifted-le at.start (part_of l at) in let p = part-le at in omega arith

  pub within-most : (at : Columns) → (text_within l at).length ≤ at.end - at.start
  unfolding text_within reached_of
  within-most at =
      let h = shifted-le at.start (take (at.end - at.start) (drop at.start l)) in
      let p = length-take (at.end - at.start) (drop at.start l) in
      omega arith

  pub from-most : (start : ℕ) → (text_from l start).length ≤ length l - start
  unfolding text_from rest_of
  from-most start = let h = shifted-le start (drop start l) in let p = length-drop start l in omega arith

  pub end-most : (start : ℕ) → (end_text_from l start).length ≤ length l - start
  unfolding end_text_from rest_of
  end-most start =
      let h = text-le start (kept (drop start l)) in
      let k = kept-le (drop start l) in
      let p = length-drop start l in
      omega arith
