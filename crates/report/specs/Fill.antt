-- What is printed for lines, and the part of it that lent bytes have room for. A line's report is put while the longest would have room, so a
-- line is put whole or not at all, and whether it is doesn't hang on what it holds.
use Rattle.std.specs.Prelude.{ℕ, suc, ◌+◌, ◌-◌, ◌≤◌, ◌≡◌, cond, List, [], ◌∷◌, ◌++◌, length, take, drop, ltb}
use Rattle.listing.specs.Listing.{longest}
use Rattle.report.specs.Report.{report}
use Rattle.report.specs.declared.fill.Filled.{Filled}
use Rattle.walker.specs.Lines.{lines_of, line_taken, number_behind}

-- the reports of lines, in order, numbered from a number on
unfoldable pub reports_from : ℕ → List (List ℕ) → List ℕ
reports_from number [] = []
reports_from number (l ∷ ls) = report number l ++ reports_from (suc number) ls

-- ---- one filling
-- what is put; where the first line stands that isn't; and its number
pub record Filling : Type 0 where
  pub text : List ℕ
  pub at : ℕ
  pub number : ℕ

-- nothing is put
abbrev pub stop : ℕ → ℕ → Filling
stop at number = record { text = []; at = at; number = number }

-- a text is put before it
abbrev pub behind : List ℕ → Filling → Filling
behind t x = record { text = t ++ x.text; at = x.at; number = x.number }

-- what room has enough of the lines of a file f that stand from `at` on, the first of them having a number
unfoldable pub fill : ℕ → List ℕ → List (List ℕ) → ℕ → ℕ → Filling
fill room f [] at number = stop at number
fill room f (l ∷ ls) at number =
    cond (ltb room longest) (stop at number)
    (behind (report number l) (fill (room - length (report number l)) f ls (at + line_taken (drop at f)) (number_behind number)))

unfoldable pub filling : ℕ → List ℕ → ℕ → ℕ → Filling
filling room f at number = fill room f (lines_of (drop at f)) at number

-- lent bytes that are filled: the answer, and every byte
pub record Fills (before : List ℕ) (t : Filling) (after : List ℕ) (r : Filled) : Type 0 where
  pub answer : r ≡ record { at = t.at; number = t.number; n = length t.text }
  pub bytes : after ≡ t.text ++ drop (length t.text) before

-- ---- filling after filling
-- what is put in one room after the other, each filling going on where the one before stopped
unfoldable pub fillings : List ℕ → List ℕ → ℕ → ℕ → List ℕ
fillings [] f at number = []
fillings (room ∷ rooms) f at number =
    (filling room f at number).text ++ fillings rooms f (filling room f at number).at (filling room f at number).number

-- every room has enough for any report
abbrev pub Enough : List ℕ → Type 0
Enough [] = Unit {0}
Enough (room ∷ rooms) = (longest ≤ room) × Enough rooms

-- ---- the word of a helper
-- a text behind the first n of lent bytes, where the longest report has room
pub record PutBehind (before : List ℕ) (n : ℕ) (text after : List ℕ) (r : ℕ) : Type 0 where
  pub count : r ≡ length text
  pub most : length text ≤ longest
  pub bytes : after ≡ take n before ++ text ++ drop (n + length text) before
