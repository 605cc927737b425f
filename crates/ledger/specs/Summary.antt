-- "The summary at the end fits one screen for any file: faults by kind of field, the first and last line of each, and what most likely happened where
-- a rule can tell: the last line is cut (the save was not flushed), the file has no END, every line is one column off." "A file without a fault is one
-- line long, and says that every number in it was read": that was looked for, since lines that are no records aren't read. "Columns are counted from 1
-- for people, and the report says so once."
use Rattle.std.specs.Prelude.{ℕ, zero, suc, ◌+◌, ◌*◌, Bool, cond, not, ◌&&◌, List, [], ◌++◌, eqb}
use Rattle.line.specs.Bytes.{bytes}
use Rattle.names.specs.Names.{group_name}
use Rattle.page.specs.Numerals.{decimal}
use Rattle.ledger.specs.Ledger.{word}

-- ---- the first line
-- so many, in words that go by whether that is none, one or more
unfoldable pub counted : ℕ → List ℕ → List ℕ → List ℕ → List ℕ
counted n none single more = cond (eqb n 0) none (cond (eqb n 1) single (decimal n ++ more))

unfoldable pub unread : ℕ → ℕ → List ℕ
unread faulty refused =
    counted faulty (bytes "no line has fields that were not read.") (bytes "1 has fields that were not read.") (bytes " have fields that were not read.")
    ++ bytes " "
    ++ counted refused (bytes "No line was refused.") (bytes "1 line was refused.") (bytes " lines were refused.")
    ++ bytes " Columns are counted from 1."

unfoldable pub whole : ℕ → List ℕ
whole records = cond (eqb records 0) (bytes "none is a record of a PDB file, so nothing was read.") (bytes "every number that was looked for was read.")

unfoldable pub verdict : ℕ → ℕ → ℕ → List ℕ
verdict records faulty refused = cond (eqb faulty 0 && eqb refused 0) (whole records) (unread faulty refused)

-- what most likely happened, each where its rule holds
abbrev pub hint : Bool → List ℕ → List ℕ
hint b text = cond b text []

unfoldable pub cut_hint : ℕ → ℕ → ℕ → List ℕ
cut_hint cut atoms ends =
    cond (eqb cut 0)
    (hint (not (eqb atoms 0) && eqb ends 0) (bytes " There is no END line: lines may be missing at the end."))
    (bytes " The last line is cut: most likely the file was not saved whole.")

unfoldable pub off_hint : ℕ → ℕ → List ℕ
off_hint atoms off =
    hint (not (eqb atoms 0) && eqb atoms off) (bytes " In every ATOM and HETATM line y or z was not read: most likely the columns are shifted.")

unfoldable pub cr_hint : ℕ → List ℕ
cr_hint cr = hint (not (eqb cr 0)) (bytes " A line has a CR inside it: most likely the lines end with CR alone.")

unfoldable pub hints : List ℕ → List ℕ
hints ws = cut_hint (word ws 7) (word ws 4) (word ws 6) ++ off_hint (word ws 4) (word ws 5) ++ cr_hint (word ws 8)

unfoldable pub first_line : List ℕ → List ℕ
first_line ws =
    counted (word ws 0) [] (bytes "1 line; ") (bytes " lines; ")
    ++ verdict (word ws 1) (word ws 2) (word ws 3)
    ++ hints ws
    ++ bytes "\n"

-- ---- a row for each group that has fields that weren't read
unfoldable pub places : ℕ → ℕ → ℕ → List ℕ
places n first last =
    cond (eqb n 1)
    (bytes ": 1, in line " ++ decimal first)
    (bytes ": " ++ decimal n ++ bytes ", first in line " ++ decimal first ++ bytes ", last in line " ++ decimal last)

unfoldable pub group_row : List ℕ → ℕ → List ℕ
group_row ws g =
    cond (eqb (word ws (9 + 3 * g)) 0) []
    (bytes "    " ++ group_name g ++ places (word ws (9 + 3 * g)) (word ws (10 + 3 * g)) (word ws (11 + 3 * g)) ++ bytes "\n")

-- of so many groups from one on
unfoldable pub group_rows : List ℕ → ℕ → ℕ → List ℕ
group_rows ws g zero = []
group_rows ws g (suc n) = group_row ws g ++ group_rows ws (suc g) n

-- ---- the whole
unfoldable pub summary : List ℕ → List ℕ
summary ws = cond (eqb (word ws 0) 0) (bytes "The file is empty.\n") (first_line ws ++ group_rows ws 0 20)
