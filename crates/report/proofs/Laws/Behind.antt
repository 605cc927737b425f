-- A report behind the first n of lent bytes, of which so many are handed on as the longest report needs.
--     put-behind     what was put on those is put behind the others
-- Assumes nothing.
use Prim.Native.Nat.{ℕ, ◌+◌, ◌≤◌}
use mathlib.Core.Path.{◌≡◌, sym, ap, ◌∙◌}
use mathlib.Core.List.{List, ◌++◌, append_assoc}
use native.Mathlib.Omega.{arith}
use lib.ListN.{length, take, drop, length-drop, take-append-drop}
use lib.Seq.{drop-drop, drop-append-le, length-take-le}
use Rattle.listing.specs.Listing.{longest}
use Rattle.page.specs.Page.{page, put, Page}
use Rattle.page.proofs.Laws.Page.{put_count, put_front}
use Rattle.report.specs.Report.{input_of, report, report_of}
use Rattle.report.specs.Fill.{PutBehind}
use Rattle.report.proofs.Laws.Room.{report-room}

-- what stands behind k bytes of a part, and then what stands behind the part
part-rest : (l : List ℕ) (m k : ℕ) → m ≤ length l → k ≤ m → drop k (take m l) ++ drop m l ≡ drop k l
part-rest l m k h a =
    let t : length (take m l) ≡ m = length-take-le m l h in
    sym (drop-append-le k (take m l) (drop m l) (omega arith)) ∙ ap (drop k) (take-append-drop m l)

-- what was put for a line that has a number
module _ (before text part : List ℕ) (number n m r : ℕ) (h : n + longest ≤ length before) (e : m ≡ longest)
    (p : page part r ≡ put (page (take m (drop n before)) 0) (report_of (length (take m (drop n before))) (input_of number text))) where
  pub put-behind : PutBehind before n (report number text) (take n before ++ (part ++ drop m (drop n before))) r
  unfolding report
  put-behind =
      let t = report_of longest (input_of number text) in
      let lent = take m (drop n before) in
      let d = length-drop n before in
      let many : length lent ≡ longest = length-take-le m (drop n before) (omega arith) ∙ e in
      let f : page part r ≡ put (page lent 0) t = rw many at p in
      let room = report-room (input_of number text) in
      let bytes = ap (λ (q : Page). q.bytes) f ∙ put_front lent t (omega arith) (omega arith) in
      let rest = part-rest (drop n before) m (length t) (omega arith) (omega arith) ∙ drop-drop (length t) n before in
      record {
        count = ap (λ (q : Page). q.at) f ∙ put_count lent t (omega arith);
        most = room;
        bytes =
            rw (bytes, append_assoc t (drop (length t) lent) (drop m (drop n before)), rest)
            (sym (append_assoc (take n before) t (drop (n + length t) before)));
      }
