-- What a line's report is, by what listing the line answers.
--     report-written     a listing that was written is the report, and is put already
--     report-refused     a refusal's rows are the report, and nothing was put before them
-- Assumes nothing.
use Prim.Native.Nat.{ℕ, ◌^◌, ◌<◌}
use mathlib.Core.Path.{◌≡◌, refl, sym, ◌∙◌}
use mathlib.Core.Bool.{Bool, true, false, cond}
use mathlib.Core.List.{List, ◌++◌}
use native.Mathlib.Omega.{arith}
use borrow.Author.Tests.{leb-true}
use lib.ListN.{length, drop}
use lib.Dec.{leb}
use Rattle.std.specs.Prelude.{Result, Ok, Err}
use Rattle.lexer.specs.Lexed.{lexed}
use Rattle.lexer.specs.Refusals.{Input}
use Rattle.lexitem.specs.declared.answer.Refusal.{Refusal}
use Rattle.lexitem.specs.declared.item.LexItem.{LexItem}
use Rattle.listing.specs.Listed.{ListedInto, listed_answer, listed_bytes, listing_by}
use Rattle.listing.proofs.Laws.One.{listed-untouched}
use Rattle.page.specs.Page.{page, put}
use Rattle.page.proofs.Laws.Page.{put_count, put_front}
use Rattle.report.specs.Report.{refused_rows, too_long, report_by, report_of}

-- ---- a listing that was written
module _ (before listing : List ℕ) (room : length before < 2 ^ 64) (other : Refusal) (rows after : List ℕ) (n : ℕ) where
  written : (b : Bool) → leb (length listing) (length before) ≡ b → Ok n ≡ cond b (Ok (length listing)) (Err other)
      → after ≡ cond b (listing ++ drop (length listing) before) before → page after n ≡ put (page before 0) (cond b listing rows)
  written true e a f =
      let h = leb-true (length listing) (length before) e in
      let count : n ≡ length listing = cc in
      let bytes = f ∙ sym (put_front before listing room h) in
      let at = count ∙ sym (put_count before listing (omega arith)) in
      rw (bytes, at) refl
  written false e a f = cc

module _ (before : List ℕ) (i : Input) (n : ℕ) (after : List ℕ) (room : length before < 2 ^ 64) where
  written_by_lem : (o : Result LexItem Refusal) → Ok n ≡ listed_answer (length before) i o → after ≡ listed_bytes before i o
      → page after n ≡ put (page before 0) (report_by (length before) i o)
  written_by_lem (Ok x) a f =
      written before (listing_by i x) room _ (refused_rows i.number (too_long (length (listing_by i x)))) after n
      (leb (length (listing_by i x)) (length before)) refl a f
  written_by_lem (Err x) a f = cc

  pub report-written : ListedInto before i (Ok n) after → page after n ≡ put (page before 0) (report_of (length before) i)
  unfolding report_of
  report-written h = written_by_lem (lexed i).outcome h.answer h.bytes

-- ---- a refusal
module _ (before : List ℕ) (i : Input) (x : Refusal) where
  refused : (listing : List ℕ) (b : Bool) → Err x ≡ cond b (Ok (length listing)) (Err (too_long (length listing)))
      → cond b listing (refused_rows i.number (too_long (length listing))) ≡ refused_rows i.number x
  refused listing true a = cc
  refused listing false a = let e : x ≡ too_long (length listing) = cc in rw e refl

  refused_by : (o : Result LexItem Refusal) → Err x ≡ listed_answer (length before) i o → report_by (length before) i o ≡ refused_rows i.number x
  refused_by (Ok y) a = refused (listing_by i y) (leb (length (listing_by i y)) (length before)) a
  refused_by (Err y) a = let e : x ≡ y = cc in rw e refl

  pub report-refused : (between after : List ℕ) (n : ℕ) → ListedInto before i (Err x) between
      → page after n ≡ put (page between 0) (refused_rows i.number x) → page after n ≡ put (page before 0) (report_of (length before) i)
  unfolding report_of
  report-refused between after n h e =
      rw (refused_by (lexed i).outcome h.answer, ← listed-untouched x h) e
