-- The places of a record's rows, counted and put.
--     record-places     sixteen rows have the places of the fields
--     counts-short      where the lent bytes are too few they stay
--     counts-put        and where they are enough, the places stand at their front
--     counts-one        the contract leaves nothing free
-- Assumes nothing.
use Prim.Native.Nat.{ℕ, ◌^◌, ◌≤◌, ◌<◌}
use mathlib.Core.Path.{◌≡◌, refl, sym, ap, ◌∙◌}
use mathlib.Core.List.{List}
use native.Mathlib.Omega.{arith}
use borrow.Author.Tests.{lt-ltb, le-ltb}
use lib.ListN.{length}
use Rattle.layout.specs.Places.{row_places, places_of}
use Rattle.layout.proofs.Laws.Each.{each-padded}
use Rattle.layout.proofs.Laws.Places.{places-most}
use Rattle.lexitem.specs.Describe.{fields_of}
use Rattle.lexitem.specs.declared.item.LexItem.{LexItem}
use Rattle.lexitem.proofs.Laws.Kinds.{rows_sixteen}
use Rattle.page.specs.Page.{Page, page, put}
use Rattle.page.proofs.Laws.Page.{put_count, put_front}
use Rattle.row.specs.Rows.{rows_of}
use Rattle.answers.specs.Places.{Counts}

pub record-places : (item : LexItem) → places_of (rows_of (fields_of item)).list ≡ places_of (fields_of item)
unfolding row_places
record-places item = each-padded row_places refl 16 (fields_of item) (rows_sixteen item)

module _ (before : List ℕ) (item : LexItem) where
  pub counts-short : length before < length (places_of (fields_of item)) → Counts before (places_of (fields_of item)) 0 before
  counts-short h = let b = lt-ltb (length before) (length (places_of (fields_of item))) h in record { answer = rw b refl; bytes = rw b refl }

  pub counts-put : (r : ℕ) (after : List ℕ) → length before < 2 ^ 64 → length (places_of (fields_of item)) ≤ length before
      → page after r ≡ put (page before 0) (places_of (fields_of item)) → Counts before (places_of (fields_of item)) r after
  counts-put r after short h e =
      let t = places_of (fields_of item) in
      let few = places-most (fields_of item) in
      let rows = rows_sixteen item in
      let b = le-ltb (length before) (length t) h in
      record {
        answer = rw b (ap (λ (p : Page). p.at) e ∙ put_count before t (omega arith));
        bytes = rw b (ap (λ (p : Page). p.bytes) e ∙ put_front before t short h);
      }

pub counts-one : (before places : List ℕ) {r s : ℕ} {after other : List ℕ} → Counts before places r after → Counts before places s other
    → (r ≡ s) × (after ≡ other)
counts-one before places a b = (a.answer ∙ sym b.answer, a.bytes ∙ sym b.bytes)
