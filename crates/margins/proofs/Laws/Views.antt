-- "Views' bytes": every text and character of the record shows the same bytes in both lines, since a record's rows are what its table shows.
--     Seen, AllSeen     what a row holds shows the same in both lines
--     seen_entry        what an entry shows
--     seen-rows         so a record's rows
--     margins-seen      and every view of it
-- Assumes nothing.
use Prim.Native.Nat.{ℕ, zero, suc, ◌+◌, ◌-◌, ◌<◌}
use mathlib.Core.Path.{◌≡◌, refl, ap, ◌∙◌, subst}
use mathlib.Core.Bool.{Bool, true, false, cond, ◌&&◌}
use mathlib.Core.List.{List, [], ◌∷◌, ◌++◌, map}
use native.Mathlib.Omega.{arith}
use borrow.Author.Tests.{le-leb, eq-eqb, eqb-true}
use lib.ListN.{length}
use lib.Dec.{T, ltb, eqb}
use lib.Ieee.Bits.{is_true}
use lib.Ieee.Fits.{and_l, and_r}
use Rattle.number.specs.Trim.{kept, span_of}
use Rattle.field.specs.Text.{text_at, text_within, text_from, end_text_from}
use Rattle.field.specs.Table.{Entry}
use Rattle.field.specs.Table.Entry.{u, i, r, t, c, c?, a, u-rest, x, t_within, t-rest, t-end, charge, known, given, unwritten, triples}
use Rattle.line.specs.Columns.{◌⋯◌, part_of, reached_of, rest_of}
use Rattle.line.specs.Text.{view_of}
use Rattle.line.specs.declared.options.Options.{Options}
use Rattle.line.specs.declared.text.Field.TheVariants as field
use Rattle.seqres.specs.Seqres.{triples_from, triple_at, triple_text, triple_row, triple_rows}
use Rattle.row.specs.declared.Row.{Row}
use Rattle.row.specs.declared.Value.{Value}
use Rattle.row.specs.declared.Value.TheVariants.{Unsigned, Signed, Real, Factor, Words, One, Flag, Nothing}
use Rattle.lexitem.specs.Describe.{describe, fields_by, item_of, fields_of}
use Rattle.lexitem.specs.Shown.{shown_by, shown, insert, sorted, keep, held}
use Rattle.lexitem.specs.declared.item.LexItem.{LexItem}
use Rattle.lexitem.proofs.Laws.Kinds.{by_table, fields-shown}
use Rattle.lexer.specs.Refusals as refusals
use Rattle.lexer.specs.Refusals.{Input}
use Rattle.margins.specs.Taken.{takes, table_takes, triples_width}
use Rattle.margins.specs.Differ.{Differ, with_line}
use Rattle.margins.specs.Views.{viewed, views_of, seen}
use Rattle.margins.proofs.Laws.Parts.{inside_in}
use Rattle.margins.proofs.Laws.Texts.{span_fits, part-le, reached-le, Alike, within_same, text-alike, character_alike, optional_alike, text-level}
use Rattle.margins.proofs.Laws.Entries.{on, Level, level, Agree, AgreeOn, or_left, or_right}
use Rattle.margins.proofs.Laws.Margins.{fields-agree, items_same}

-- ---- the triples' rows have their columns by `triple_at`, and the table names the first of them
abbrev pub in_place : Entry → Bool
in_place (triples start) = eqb start (triple_at 0)
in_place (u at) = true
in_place (i at) = true
in_place (r at default) = true
in_place (t at) = true
in_place (c at) = true
in_place (c? at) = true
in_place (a at) = true
in_place (u-rest start) = true
in_place (x at) = true
in_place (t_within at) = true
in_place (t-rest start) = true
in_place (t-end start) = true
in_place (charge at) = true
in_place (known at) = true
in_place (given column) = true
in_place (unwritten column) = true

abbrev all_in_place : List Entry → Bool
all_in_place [] = true
all_in_place (e ∷ es) = in_place e && all_in_place es

module _ (l m : List ℕ) where
  -- ---- rows
  abbrev pub Seen : Value → Type 0
  Seen (Words text) = Alike l m (field.Words text)
  Seen (One character) = Alike l m (field.One character)
  Seen (Unsigned n) = Unit {0}
  Seen (Signed n) = Unit {0}
  Seen (Real y places) = Unit {0}
  Seen (Factor y) = Unit {0}
  Seen (Flag b) = Unit {0}
  Seen Nothing = Unit {0}

  abbrev pub AllSeen : List Row → Type 0
  AllSeen [] = Unit {0}
  AllSeen (row ∷ rest) = Seen row.1 × AllSeen rest

  seen-append : (xs ys : List Row) → AllSeen xs → AllSeen ys → AllSeen (xs ++ ys)
  seen-append [] ys f g = g
  seen-append (row ∷ xs) ys f g = (f.0, seen-append xs ys f.1 g)

  seen-insert : (row : Row) (rows : List Row) → Seen row.1 → AllSeen rows → AllSeen (insert row rows)
  seen-insert row [] f g = (f, tt)
  seen-insert row (y ∷ rest) f g = go (ltb y.0 row.0) (seen-insert row rest f g.1)
    where
      go : (b : Bool) → AllSeen (insert row rest) → AllSeen (cond b (y ∷ insert row rest) (row ∷ y ∷ rest))
      go true h = (g.0, h)
      go false h = (f, g)

  seen-sorted : (rows : List Row) → AllSeen rows → AllSeen (sorted rows)
  seen-sorted [] f = tt
  seen-sorted (row ∷ rest) f = seen-insert row (sorted rest) f.0 (seen-sorted rest f.1)

  -- a row that shows nothing has no view
  keep-seen : (v : Value) (row : Row) (rest : List Row) → Seen row.1 → AllSeen rest → AllSeen (keep v row rest)
  keep-seen (Words text) row rest s h = (s, h)
  keep-seen (One character) row rest s h = (s, h)
  keep-seen (Unsigned n) row rest s h = (s, h)
  keep-seen (Signed n) row rest s h = (s, h)
  keep-seen (Real y places) row rest s h = (s, h)
  keep-seen (Factor y) row rest s h = (s, h)
  keep-seen (Flag b) row rest s h = (s, h)
  keep-seen Nothing row rest s h = h

  seen-held : (rows : List Row) → AllSeen rows → AllSeen (held rows)
  seen-held [] f = tt
  seen-held (row ∷ rest) f = keep-seen row.1 row (held rest) f.0 (seen-held rest f.1)

  kept_seen : (v : Value) (row : Row) (rest : List Row) → row.1 ≡ v → AllSeen (keep v row rest) → Seen row.1 × AllSeen rest
  kept_seen (Words text) row rest e s = s
  kept_seen (One character) row rest e s = s
  kept_seen (Unsigned n) row rest e s = s
  kept_seen (Signed n) row rest e s = s
  kept_seen (Real y places) row rest e s = s
  kept_seen (Factor y) row rest e s = s
  kept_seen (Flag b) row rest e s = s
  kept_seen Nothing row rest e s = (rw e tt, s)

  held-seen : (rows : List Row) → AllSeen (held rows) → AllSeen rows
  held-seen [] f = tt
  held-seen (row ∷ rest) f = let s = kept_seen row.1 row (held rest) refl f in (s.0, held-seen rest s.1)

  seen_mapped : (standIn : List ℕ) (rows : List Row) → AllSeen rows → map (view_of l standIn) (views_of rows) ≡ map (view_of m standIn) (views_of rows)
  seen_mapped standIn [] f = refl
  seen_mapped standIn (row ∷ rest) f = go row.1 f.0 (seen_mapped standIn rest f.1)
    where
      go : (v : Value) → Seen v → map (view_of l standIn) (views_of rest) ≡ map (view_of m standIn) (views_of rest)
          → map (view_of l standIn) (viewed v (views_of rest)) ≡ map (view_of m standIn) (viewed v (views_of rest))
      go (Words text) s e = rw (s standIn, e) refl
      go (One character) s e = rw (s standIn, e) refl
      go (Unsigned n) s e = e
      go (Signed n) s e = e
      go (Real y places) s e = e
      go (Factor y) s e = e
      go (Flag b) s e = e
      go Nothing s e = e

  -- ---- entries
  -- the triples' rows from an index on
  triples-seen : (k index count : ℕ) → ((j : ℕ) → j < index + k → Alike l m (field.Words (triple_text j))) → AllSeen (triple_rows k index count)
  unfolding triple_row
  triples-seen zero index count h = tt
  triples-seen (suc k) index count h =
      (this (ltb index count), triples-seen k (index + 1) count (λ j p. h j (omega arith)))
    where
      this : (b : Bool) → Seen (cond {A = Value} b (Words (triple_text index)) Nothing)
      this true = h index (omega arith)
      this false = tt

  module _ (options : Options) (remarks : List ℕ) where
    pub seen_entry : (e : Entry) → in_place e ≡ true → Level l m e → Agree l m e → AllSeen (shown_by (on options remarks l) e)
    unfolding text_at text_within text_from end_text_from
    seen_entry (t at) w q h =
        let p = span_of (part_of l at) in (
          text-alike l m (at.start + p.place) p.length (text-level l m at q)
              (λ j f g. h j (inside_in at j (omega arith) (omega (arith, span_fits (part_of l at), part-le l at)))),
          tt,
        )
    seen_entry (c at) w q h = (character_alike l m at.start q (h at.start (eq-eqb at.start at.start refl)), tt)
    seen_entry (c? at) w q h = (optional_alike l m at.start q (h at.start (eq-eqb at.start at.start refl)), tt)
    seen_entry (x at) w q h =
        (λ s. within_same l m at.start (at.end - at.start) q (λ j f g. h j (inside_in at j f (omega arith))), tt)
    seen_entry (t_within at) w q h =
        let p = span_of (reached_of l at) in (
          text-alike l m (at.start + p.place) p.length (rw q refl)
              (λ j f g. h j (inside_in at j (omega arith) (omega (arith, span_fits (reached_of l at), reached-le l at)))),
          tt,
        )
    seen_entry (t-rest start) w q h =
        let p = span_of (rest_of l start) in
        (text-alike l m (start + p.place) p.length (rw q refl) (λ j f g. h j (le-leb start j (omega arith))), tt)
    seen_entry (t-end start) w q h =
        (text-alike l m start (kept (rest_of l start)) (rw q refl) (λ j f g. h j (le-leb start j f)), tt)
    seen_entry (triples start) w q h =
        triples-seen 13 0 (triples_from 13 start l)
        (λ j p s.
        let e = eqb-true start (triple_at 0) w in
        within_same l m (triple_at j) 3 (rw q refl)
        (λ n f g. h n (inside_in (start ⋯ (start + triples_width)) n (omega arith) (omega arith))))
    seen_entry (u at) w q h = (tt, tt)
    seen_entry (i at) w q h = (tt, tt)
    seen_entry (r at default) w q h = (tt, tt)
    seen_entry (a at) w q h = (tt, tt)
    seen_entry (u-rest start) w q h = (tt, tt)
    seen_entry (charge at) w q h = (tt, tt)
    seen_entry (known at) w q h = tt
    seen_entry (given column) w q h = (tt, tt)
    seen_entry (unwritten column) w q h = (tt, tt)

  -- ---- tables
  module _ (options : Options) (remarks : List ℕ) (long : length l ≡ length m) where
    seen-table : (es : List Entry) → T (all_in_place es) → AgreeOn l m es → AllSeen (shown (on options remarks l) es)
    seen-table [] p h = tt
    seen-table (e ∷ es) p h =
        seen-append (shown_by (on options remarks l) e) (shown (on options remarks l) es)
        (seen_entry options remarks e (is_true (in_place e) (and_l (in_place e) (all_in_place es) p)) (level l m long e)
        (λ column s. h column (or_left (takes e column) (table_takes es column) s)))
        (seen-table es (and_r (in_place e) (all_in_place es) p) (λ column s. h column (or_right (takes e column) (table_takes es column) s)))

module _ (n : Input) (m : List ℕ) (d : Differ n m) where
  abbrev table : List Entry
  table = fields_by (refusals.kind n) (refusals.given n)

  pub seen-rows : AllSeen n.line m (fields_of (item_of (refusals.kind n) (refusals.given n)))
  seen-rows =
      let mode = n.options.mode in
      let part = (describe (refusals.kind n)).part n.line in
      let rows = shown (refusals.given n) table in
      let all =
      seen-table n.line m n.options n.remarks d.long table (by_table all_in_place tt mode (refusals.kind n) part) (fields-agree n m d) in
      let sorts = seen-held n.line m (sorted rows) (seen-sorted n.line m rows all) in
      held-seen n.line m (fields_of (item_of (refusals.kind n) (refusals.given n)))
      (subst (AllSeen n.line m) (fields-shown (refusals.given n) (refusals.kind n)).0 sorts)

  pub margins-seen : (standIn : List ℕ) → seen n standIn ≡ seen (with_line n m) standIn
  margins-seen standIn =
      seen_mapped n.line m standIn (fields_of (item_of (refusals.kind n) (refusals.given n))) seen-rows
      ∙ ap (λ (x : LexItem). map (view_of m standIn) (views_of (fields_of x))) (items_same n m d)
