-- What is printed for a file has room in 4,096 bytes.
--     verdict-short     at most so many are printed
--     put-short         so the place behind what was put is there
-- Assumes nothing.
use Prim.Native.Nat.{ℕ, ◌+◌, ◌≤◌}
use mathlib.Core.Path.{◌≡◌, ap, ◌∙◌}
use mathlib.Core.List.{List}
use native.Mathlib.Omega.{arith}
use lib.Dec.{eqb, lit≤}
use lib.ListN.{length, length-append}
use Rattle.std.proofs.Common.{Ok, Err}
use Rattle.audit.specs.Audit.{Checked}
use Rattle.layout.specs.Label.{three_row}
use Rattle.line.specs.Bytes.{bytes}
use Rattle.master.specs.declared.record.Master.{Master}
use Rattle.page.specs.Page.{Page, page, put}
use Rattle.page.proofs.Laws.Decimal.{decimal-most}
use Rattle.page.proofs.Laws.Lists.{either-most}
use Rattle.page.proofs.Laws.Page.{put_count}
use Rattle.tally.specs.Compare.{counts_of, said_by, differing}
use Rattle.tally.specs.declared.Tally.{Tally}
use Rattle.verdict.specs.Verdict.{same_or_not, row, upper_rows, lower_rows, lacks, last_row, compared_rows, why, refused_rows, verdict_of}

-- ---- the rows
row-most : (name : List ℕ) (a b : ℕ) → length (row name a b) ≤ length name + 67
unfolding row same_or_not
row-most name a b =
    let x = decimal-most a in
    let y = decimal-most b in
    let z = either-most 8 (eqb a b) (bytes "same\n") (bytes "differs\n") (lit≤ tt) (lit≤ tt) in
    simp length-append (omega arith)

upper-most : (t : Tally) (m : Master) → length (upper_rows t m) ≤ 600
unfolding upper_rows
upper-most t m =
    let a = row-most (bytes "REMARK") t.remark m.remark in
    let b = row-most (bytes "second number") 0 m.empty in
    let c = row-most (bytes "HET") t.het m.het in
    let d = row-most (bytes "HELIX") t.helix m.helix in
    let e = row-most (bytes "SHEET") t.sheet m.sheet in
    let f = row-most (bytes "TURN") t.turn m.turn in
    simp length-append (omega arith)

lower-most : (t : Tally) (m : Master) → length (lower_rows t m) ≤ 600
unfolding lower_rows
lower-most t m =
    let a = row-most (bytes "SITE") t.site m.site in
    let b = row-most (bytes "ORIGX+SCALE+MTRIX") t.xform m.xform in
    let c = row-most (bytes "ATOM+HETATM") t.coord m.coord in
    let d = row-most (bytes "TER") t.ter m.ter in
    let e = row-most (bytes "CONECT") t.connect m.connect in
    let f = row-most (bytes "SEQRES") t.seq m.seq in
    simp length-append (omega arith)

last-most : (t : Tally) (m : Master) → length (last_row t m) ≤ 100
unfolding last_row
last-most t m =
    either-most 100 (lacks t m) (bytes "lines are missing\n") _ (lit≤ tt)
    (either-most 100 (eqb (differing (counts_of t) (said_by m)) 0) (bytes "no lines are missing\n")
    (bytes "no lines are missing, but MASTER says other numbers\n") (lit≤ tt) (lit≤ tt))

why-most : (n : ℕ) → length (why n) ≤ 100
unfolding why
why-most n =
    either-most 100 (eqb n 10) (bytes "there is no MASTER line\n") _ (lit≤ tt)
    (either-most 100 (eqb n 11) (bytes "there is more than one MASTER line\n") (bytes "the MASTER line can't be read\n") (lit≤ tt) (lit≤ tt))

three-most : (a b c : ℕ) → length (three_row (bytes "refusal=") a b c) ≤ 100
unfolding three_row
three-most a b c =
    let x = decimal-most a in
    let y = decimal-most b in
    let z = decimal-most c in
    simp length-append (omega arith)

-- ---- a file
pub verdict-short : (c : Checked) → length (verdict_of c) ≤ 4096
unfolding compared_rows refused_rows
verdict-short (Ok c) =
    let a = upper-most c.counted c.said in
    let b = lower-most c.counted c.said in
    let d = last-most c.counted c.said in
    simp length-append (omega arith)
verdict-short (Err r) =
    let a = three-most r.number r.place r.length in
    let b = why-most r.number in
    simp length-append (omega arith)

pub put-short : (c : Checked) (before after : List ℕ) (n : ℕ) → page after n ≡ put (page before 0) (verdict_of c) → n ≤ 4096
put-short c before after n e =
    let short = verdict-short c in
    let count : n ≡ length (verdict_of c) = ap (λ (p : Page). p.at) e ∙ put_count before (verdict_of c) (omega arith) in
    omega arith
