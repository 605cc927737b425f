-- Two lines that agree on the bytes of a text or on a character show the same bytes of it.
--     span_fits         the trimmed text of a part lies in the part
--     part-le, reached-le    a part is no longer than its columns are wide
--     Alike             a view shows the same in both lines
--     within_same       the bytes at a place
--     text-alike, character_alike, optional_alike    a text, a C, and one whose blank means absent
--     text-level        a text of columns that both lines reach, or neither, ends in both or in neither
-- Assumes nothing.
use Prim.Native.Nat.{ℕ, ◌+◌, ◌-◌, ◌<◌, ◌≤◌}
use mathlib.Core.Path.{◌≡◌, refl, sym, ap, ◌∙◌}
use mathlib.Core.Bool.{Bool, true, false, cond}
use mathlib.Core.List.{List, []}
use native.Mathlib.Omega.{arith}
use borrow.Author.Tests.{le-leb, leb-true, ltb-true, ltb-false, eqb-false}
use lib.ListN.{length, take, drop, get_or, length-take, length-drop}
use lib.Dec.{ltb, leb, eqb}
use Rattle.number.specs.Trim.{leading, trimmed, span_of}
use Rattle.number.specs.declared.trim.Span.{Span}
use Rattle.number.proofs.Laws.Trim.{leading_le, end_trimmed-le}
use Rattle.field.specs.Text.{text_of, shifted, text_at, character_at, optional_at}
use Rattle.field.proofs.Laws.Fields.{part-short}
use Rattle.line.specs.Columns.{part_of, reached_of}
use Rattle.line.specs.Text.{within_of, view_character, view_of}
use Rattle.line.specs.declared.columns.Columns.{Columns}
use Rattle.line.specs.declared.text.Text.{Text}
use Rattle.line.specs.declared.text.Character.TheVariants.{At, Unreached, Absent}
use Rattle.line.specs.declared.text.Field.{Field}
use Rattle.line.specs.declared.text.Field.TheVariants as field
use Rattle.margins.proofs.Laws.Parts.{slice_same}

-- ---- where a text lies
trimmed-fits : (part : List ℕ) → leading part + length (trimmed part) ≤ length part
unfolding trimmed
trimmed-fits part = omega (arith, end_trimmed-le (drop (leading part) part), length-drop (leading part) part, leading_le part)

pub span_fits : (part : List ℕ) → (span_of part).place + (span_of part).length ≤ length part
unfolding span_of
span_fits part = go (eqb (length (trimmed part)) 0) (trimmed-fits part)
  where
    go : (b : Bool) → leading part + length (trimmed part) ≤ length part
        → ((cond {A = Span} b (record { place = 0; length = 0 }) (record { place = leading part; length = length (trimmed part) })).place
        + (cond {A = Span} b (record { place = 0; length = 0 }) (record { place = leading part; length = length (trimmed part) })).length)
        ≤ length part
    go true h = omega arith
    go false h = h

-- a byte of a text stands behind the text's place
text_in : (p n j : ℕ) → (text_of p n).place ≤ j → j < (text_of p n).place + (text_of p n).length → (p ≤ j) × (j < p + n)
text_in p n j = go (eqb n 0)
  where
    go : (b : Bool) → (cond {A = Text} b (record { place = 0; length = 0 }) (record { place = p; length = n })).place ≤ j
        → j
        < ((cond {A = Text} b (record { place = 0; length = 0 }) (record { place = p; length = n })).place
        + (cond {A = Text} b (record { place = 0; length = 0 }) (record { place = p; length = n })).length)
        → (p ≤ j) × (j < p + n)
    go true f g = (absurd (omega arith), absurd (omega arith))
    go false f g = (f, g)

pub part-le : (l : List ℕ) (at : Columns) → length (part_of l at) ≤ at.end - at.start
unfolding part_of
part-le l at = go (ltb (length l) at.end)
  where
    go : (b : Bool) → length (cond b [] (take (at.end - at.start) (drop at.start l))) ≤ at.end - at.start
    go true = omega arith
    go false = simp length-take (omega arith)

pub reached-le : (l : List ℕ) (at : Columns) → length (reached_of l at) ≤ at.end - at.start
unfolding reached_of
reached-le l at = simp length-take (omega arith)

-- so a text of a part ends no later than the part's columns
text-end : (start end : ℕ) (part : List ℕ) → length part ≤ end - start
    → (shifted start (span_of part)).place + (shifted start (span_of part)).length ≤ end
text-end start end part h = go (eqb (span_of part).length 0) refl (span_fits part)
  where
    go : (b : Bool) → eqb (span_of part).length 0 ≡ b → (span_of part).place + (span_of part).length ≤ length part
        → ((cond {A = Text} b (record { place = 0; length = 0 }) (record { place = start + (span_of part).place; length = (span_of part).length })).place
        + (cond {A = Text} b (record { place = 0; length = 0 }) (record { place = start + (span_of part).place; length = (span_of part).length })).length)
        ≤ end
    go true e f = omega arith
    go false e f = let z = eqb-false (span_of part).length 0 e in omega arith

-- ---- what is shown
module _ (l m : List ℕ) where
  pub within_same : (p n : ℕ) → leb (p + n) (length l) ≡ leb (p + n) (length m)
      → ((j : ℕ) → p ≤ j → j < p + n → get_or l j 0 ≡ get_or m j 0) → within_of l p n ≡ within_of m p n
  unfolding within_of
  within_same p n q h = go (leb (p + n) (length l)) refl
    where
      go : (b : Bool) → leb (p + n) (length l) ≡ b
          → cond (leb (p + n) (length l)) (take n (drop p l)) [] ≡ cond (leb (p + n) (length m)) (take n (drop p m)) []
      go true e =
          let f = leb-true (p + n) (length l) e in
          let g = leb-true (p + n) (length m) (sym q ∙ e) in
          let s : length (take n (drop p l)) ≡ length (take n (drop p m)) = simp (length-take, length-drop) (omega arith) in
          rw (sym q ∙ e, e) (slice_same l m p n s h)
      go false e = rw (sym q ∙ e, e) refl

  both_end : (n : ℕ) → n ≤ length l → n ≤ length m → leb n (length l) ≡ leb n (length m)
  both_end n f g = le-leb n (length l) f ∙ sym (le-leb n (length m) g)

  abbrev pub Alike : Field → Type 0
  Alike f = (standIn : List ℕ) → view_of l standIn f ≡ view_of m standIn f

  pub text-alike : (p n : ℕ) → leb ((text_of p n).place + (text_of p n).length) (length l) ≡ leb ((text_of p n).place + (text_of p n).length) (length m)
      → ((j : ℕ) → p ≤ j → j < p + n → get_or l j 0 ≡ get_or m j 0) → Alike (field.Words (text_of p n))
  text-alike p n q h s =
      within_same (text_of p n).place (text_of p n).length q (λ j f g. let w = text_in p n j f g in h j w.0 w.1)

  one_alike : (column : ℕ) → column < length l → column < length m → get_or l column 0 ≡ get_or m column 0 → Alike (field.One (At column))
  one_alike column f g e s =
      within_same column 1 (both_end (column + 1) (omega arith) (omega arith)) (λ j p q. let w : j ≡ column = omega arith in rw w e)

  module _ (column : ℕ) (q : ltb column (length l) ≡ ltb column (length m)) (e : get_or l column 0 ≡ get_or m column 0) where
    pub character_alike : Alike (field.One (character_at l column))
    unfolding character_at
    character_alike s = go (ltb column (length l)) refl
      where
        go : (b : Bool) → ltb column (length l) ≡ b → view_character l s (cond b (At column) Unreached) ≡ view_character m s (cond b (At column) Unreached)
        go true p = one_alike column (ltb-true column (length l) p) (ltb-true column (length m) (sym q ∙ p)) e s
        go false p = refl

    pub optional_alike : Alike (field.One (optional_at l column))
    unfolding optional_at
    optional_alike s = go (ltb column (length l)) refl (eqb (get_or l column 0) 32)
      where
        go : (b : Bool) → ltb column (length l) ≡ b → (y : Bool)
            → view_character l s (cond b (cond y Absent (At column)) Absent) ≡ view_character m s (cond b (cond y Absent (At column)) Absent)
        go true p true = refl
        go true p false = one_alike column (ltb-true column (length l) p) (ltb-true column (length m) (sym q ∙ p)) e s
        go false p y = refl

  -- a text of columns that both lines reach ends in both; one of columns that neither reaches is empty
  pub text-level : (at : Columns) → ltb (length l) at.end ≡ ltb (length m) at.end
      → leb ((text_at l at).place + (text_at l at).length) (length l) ≡ leb ((text_at l at).place + (text_at l at).length) (length m)
  unfolding text_at
  text-level at q = go (ltb (length l) at.end) refl
    where
      go : (b : Bool) → ltb (length l) at.end ≡ b
          → leb ((shifted at.start (span_of (part_of l at))).place + (shifted at.start (span_of (part_of l at))).length) (length l)
          ≡ leb ((shifted at.start (span_of (part_of l at))).place + (shifted at.start (span_of (part_of l at))).length) (length m)
      go true p =
          let n : length (part_of l at) ≡ 0 = ap length (part-short l at p) in
          let z : (shifted at.start (span_of (part_of l at))).place + (shifted at.start (span_of (part_of l at))).length ≤ 0 =
          text-end at.start 0 (part_of l at) (omega arith) in
          both_end ((shifted at.start (span_of (part_of l at))).place + (shifted at.start (span_of (part_of l at))).length) (omega arith) (omega arith)
      go false p =
          let z = text-end at.start at.end (part_of l at) (part-le l at) in
          let f = ltb-false (length l) at.end p in
          let g = ltb-false (length m) at.end (sym q ∙ p) in
          both_end ((shifted at.start (span_of (part_of l at))).place + (shifted at.start (span_of (part_of l at))).length) (omega arith) (omega arith)
