-- "A program for people: standard input, one row for each number (name, counted, said, same or not) and a last row that says in words whether lines are
-- missing; refusals as rows." Every row ends with LF.
use Rattle.std.specs.Prelude.{ℕ, Bool, false, cond, ◌||◌, List, [], ◌∷◌, ◌++◌, eqb, ltb, take, drop, Ok, Err}
use Rattle.audit.specs.Audit.{Checked, checked}
use Rattle.audit.specs.declared.Compared.{Compared}
use Rattle.layout.specs.Label.{three_row}
use Rattle.lexitem.specs.declared.answer.Refusal.{Refusal}
use Rattle.line.specs.Bytes.{bytes}
use Rattle.master.specs.declared.record.Master.{Master}
use Rattle.page.specs.Numerals.{decimal}
use Rattle.tally.specs.Compare.{counts_of, said_by, differing}
use Rattle.tally.specs.declared.Tally.{Tally}

-- ---- a row for each number
unfoldable pub same_or_not : ℕ → ℕ → List ℕ
same_or_not counted said = cond (eqb counted said) (bytes "same\n") (bytes "differs\n")

unfoldable pub row : List ℕ → ℕ → ℕ → List ℕ
row name counted said =
    name ++ bytes ": " ++ decimal counted ++ bytes " counted, " ++ decimal said ++ bytes " said, " ++ same_or_not counted said

unfoldable pub upper_rows : Tally → Master → List ℕ
upper_rows t m =
    row (bytes "REMARK") t.remark m.remark
    ++ row (bytes "second number") 0 m.empty
    ++ row (bytes "HET") t.het m.het
    ++ row (bytes "HELIX") t.helix m.helix
    ++ row (bytes "SHEET") t.sheet m.sheet
    ++ row (bytes "TURN") t.turn m.turn

unfoldable pub lower_rows : Tally → Master → List ℕ
lower_rows t m =
    row (bytes "SITE") t.site m.site
    ++ row (bytes "ORIGX+SCALE+MTRIX") t.xform m.xform
    ++ row (bytes "ATOM+HETATM") t.coord m.coord
    ++ row (bytes "TER") t.ter m.ter
    ++ row (bytes "CONECT") t.connect m.connect
    ++ row (bytes "SEQRES") t.seq m.seq

-- ---- whether lines are missing
-- one of some counts is below what is said in its place
unfoldable pub fewer : List ℕ → List ℕ → Bool
fewer [] t = false
fewer (a ∷ s) [] = false
fewer (a ∷ s) (b ∷ t) = ltb a b || fewer s t

-- no line counts for the second number, so that none is missing there
unfoldable pub lacks : Tally → Master → Bool
lacks t m = fewer (take 1 (counts_of t)) (take 1 (said_by m)) || fewer (drop 2 (counts_of t)) (drop 2 (said_by m))

unfoldable pub last_row : Tally → Master → List ℕ
last_row t m =
    cond (lacks t m)
    (bytes "lines are missing\n")
    (cond (eqb (differing (counts_of t) (said_by m)) 0)
    (bytes "no lines are missing\n")
    (bytes "no lines are missing, but MASTER says other numbers\n"))

unfoldable pub compared_rows : Compared → List ℕ
compared_rows c = upper_rows c.counted c.said ++ lower_rows c.counted c.said ++ last_row c.counted c.said

-- ---- a refusal
unfoldable pub why : ℕ → List ℕ
why number =
    cond (eqb number 10)
    (bytes "there is no MASTER line\n")
    (cond (eqb number 11) (bytes "there is more than one MASTER line\n") (bytes "the MASTER line can't be read\n"))

unfoldable pub refused_rows : Refusal → List ℕ
refused_rows r = three_row (bytes "refusal=") r.number r.place r.length ++ why r.number

-- ---- a file
abbrev pub verdict_of : Checked → List ℕ
verdict_of (Ok c) = compared_rows c
verdict_of (Err r) = refused_rows r

abbrev pub verdict : List ℕ → List ℕ
verdict f = verdict_of (checked f)
