-- How long a report can be, so that a program knows what to lend.
--     refused-most      the rows of a refusal have at most 112 bytes
--     report-whole      in 4,096 bytes a line's report is its listing, or the rows of its own refusal
--     report-room       and has room there
--     report-within     so what was put on 4,096 lent bytes has room
--     report-front      and is the report
--     report-size       and has as many bytes as were counted
-- Assumes nothing.
use Prim.Native.Nat.{ℕ, ◌≤◌}
use mathlib.Core.Path.{◌≡◌, refl, sym, ap, ◌∙◌}
use mathlib.Core.List.{List}
use native.Mathlib.Omega.{arith}
use borrow.Author.Tests.{le-leb}
use lib.ListN.{length, take, length-append}
use lib.Seq.{take_at}
use Rattle.std.specs.Prelude.{Result, Ok, Err}
use Rattle.layout.specs.Label.{head_rows, number_row, three_row}
use Rattle.lexer.specs.Lexed.{lexed}
use Rattle.lexer.specs.Refusals.{Input}
use Rattle.lexitem.specs.declared.answer.Refusal.{Refusal}
use Rattle.lexitem.specs.declared.item.LexItem.{LexItem}
use Rattle.listing.specs.Listed.{listing_by}
use Rattle.listing.specs.Listing.{longest}
use Rattle.listing.proofs.Laws.Longest.{listing_longest}
use Rattle.page.proofs.Laws.Decimal.{decimal-most}
use Rattle.page.specs.Page.{Page, page, put}
use Rattle.page.proofs.Laws.Page.{put_count, put_front}
use Rattle.report.specs.Report.{refused_rows, report_by, report_of}

pub refused-most : (number : ℕ) (r : Refusal) → length (refused_rows number r) ≤ 112
unfolding refused_rows head_rows number_row three_row
refused-most number r =
    let line = decimal-most number in
    let name = decimal-most r.number in
    let place = decimal-most r.place in
    let many = decimal-most r.length in
    simp length-append (omega arith)

-- ---- a report with room enough
-- the listing of an accepted line, or the rows of a refused line's refusal
abbrev pub whole_by : Input → Result LexItem Refusal → List ℕ
whole_by i (Ok x) = listing_by i x
whole_by i (Err r) = refused_rows i.number r

whole : (i : Input) (o : Result LexItem Refusal) → (lexed i).outcome ≡ o → report_by longest i o ≡ whole_by i o
whole i (Ok x) e = rw (le-leb (length (listing_by i x)) longest (listing_longest i x e)) refl
whole i (Err r) e = refl

pub report-whole : (i : Input) → report_of longest i ≡ whole_by i (lexed i).outcome
unfolding report_of
report-whole i = whole i (lexed i).outcome refl

whole_room : (i : Input) (o : Result LexItem Refusal) → (lexed i).outcome ≡ o → length (whole_by i o) ≤ longest
whole_room i (Ok x) e = listing_longest i x e
whole_room i (Err r) e = let h = refused-most i.number r in omega arith

pub report-room : (i : Input) → length (report_of longest i) ≤ longest
report-room i = rw (report-whole i) (whole_room i (lexed i).outcome refl)

-- ---- a report on 4,096 lent bytes
module _ (i : Input) (before after : List ℕ) (n : ℕ) (many : length before ≡ longest)
    (e : page after n ≡ put (page before 0) (report_of (length before) i)) where
  counted : n ≡ length (report_of longest i)
  counted =
      let room = report-room i in
      let f = rw many at e in
      ap (λ (p : Page). p.at) f ∙ put_count before (report_of longest i) (omega arith)

  pub report-within : n ≤ length before
  report-within = let room = report-room i in omega (arith, counted)

  pub report-front : take n after ≡ report_of longest i
  report-front =
      let room = report-room i in
      let f = rw many at e in
      let bytes = ap (λ (p : Page). p.bytes) f ∙ put_front before (report_of longest i) (omega arith) (omega arith) in
      rw (counted, bytes) (take_at _ _ _ refl)

  pub report-size : n ≡ length (take n after)
  report-size = counted ∙ ap length (sym report-front)
