-- A held line's report at the front of lent bytes, by the code's steps.
--     puts-lent, puts-report    what was put on 4,096 of them
--     over-few                  the rows of refusal 2 have room there
--     held-over, held-line      a line over 1,024 bytes, and any other
-- Assumes nothing.
use Prim.Native.Nat.{ℕ, ◌≤◌, ◌<◌}
use mathlib.Core.Path.{◌≡◌, refl, sym, ap, ◌∙◌}
use mathlib.Core.List.{List, ◌++◌, append_assoc}
use native.Mathlib.Omega.{arith}
use borrow.Author.Tests.{lt-ltb, le-ltb}
use lib.ListN.{length, take, drop, take-append-drop}
use lib.Seq.{drop-append-le, length-take-le}
use Rattle.carry.specs.Held.{most_kept}
use Rattle.lexer.specs.Refusals.{excess}
use Rattle.lexitem.specs.Answer.{refusal}
use Rattle.listing.specs.Listing.{longest}
use Rattle.page.specs.Page.{Page, page, put}
use Rattle.page.proofs.Laws.Page.{put_count, put_front}
use Rattle.parts.specs.Feed.{Puts}
use Rattle.parts.specs.Held.{over_rows, held_text}
use Rattle.report.specs.Report.{report, report_of, input_of}
use Rattle.report.proofs.Laws.Room.{report-room, refused-most}

module _ (before part text : List ℕ) (r : ℕ) (many : longest ≤ length before) (few : length text ≤ longest)
    (e : page part r ≡ put (page (take longest before) 0) text) where
  pub puts-lent : Puts text before (part ++ drop longest before) r
  puts-lent =
      let size = length-take-le longest before many in
      let bytes = ap (λ (q : Page). q.bytes) e ∙ put_front (take longest before) text (omega arith) (omega arith) in
      let rest : drop (length text) (take longest before) ++ drop longest before ≡ drop (length text) before =
      sym (drop-append-le (length text) (take longest before) (drop longest before) (omega arith)) ∙ ap (drop (length text)) (take-append-drop longest before) in
      record {
        count = ap (λ (q : Page). q.at) e ∙ put_count (take longest before) text (omega arith);
        bytes = rw (bytes, append_assoc text (drop (length text) (take longest before)) (drop longest before), rest) refl;
      }

pub puts-report : (before part l : List ℕ) (number r : ℕ) → longest ≤ length before
    → page part r ≡ put (page (take longest before) 0) (report_of (length (take longest before)) (input_of number l))
    → Puts (report number l) before (part ++ drop longest before) r
unfolding report
puts-report before part l number r many e =
    puts-lent before part (report_of longest (input_of number l)) r many (report-room (input_of number l)) (rw (length-take-le longest before many) at e)

pub over-few : (number size : ℕ) → length (over_rows number size) ≤ longest
over-few number size = let h = refused-most number (refusal 2 1024 (excess size)) in omega arith

module _ (number size : ℕ) (kept before after : List ℕ) (r : ℕ) where
  pub held-over : most_kept < size → Puts (over_rows number size) before after r → Puts (held_text number size kept) before after r
  unfolding held_text
  held-over l p = rw (lt-ltb most_kept size l) p

  pub held-line : size ≤ most_kept → Puts (report number (take size kept)) before after r → Puts (held_text number size kept) before after r
  unfolding held_text
  held-line l p = rw (le-ltb most_kept size l) p
