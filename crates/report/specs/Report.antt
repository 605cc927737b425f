-- "Program `pdblist` reads .. not loose, all kinds, every remark number valid, and prints one listing a line. The listing entry hands a line's
-- refusal back with its output untouched; the program then prints `record=REFUSED`, `line`, `refusal=number,place,length`." Every row ends with
-- LF.
use Rattle.std.specs.Prelude.{ℕ, cond, List, ◌++◌, length, replicate, leb, Result, Ok, Err}
use Rattle.line.specs.Bytes.{bytes}
use Rattle.line.specs.Options.{plain}
use Rattle.layout.specs.Label.{head_rows, three_row}
use Rattle.lexer.specs.Lexed.{lexed}
use Rattle.lexer.specs.Refusals.{Input}
use Rattle.lexitem.specs.declared.answer.Refusal.{Refusal}
use Rattle.lexitem.specs.declared.item.LexItem.{LexItem}
use Rattle.listing.specs.Listed.{listing_by}
use Rattle.listing.specs.Listing.{longest}

-- the rows of a refusal
unfoldable pub refused_rows : ℕ → Refusal → List ℕ
refused_rows number r =
    head_rows (bytes "REFUSED") number ++ three_row (bytes "refusal=") r.number r.place r.length

-- the refusal of a line whose listing needs more room than there is
abbrev pub too_long : ℕ → Refusal
too_long needed = record { number = 8; place = 0; length = needed }

-- what is printed for a line that has an outcome, where there is so much room
abbrev pub report_by : ℕ → Input → Result LexItem Refusal → List ℕ
report_by room i (Ok item) =
    cond (leb (length (listing_by i item)) room) (listing_by i item) (refused_rows i.number (too_long (length (listing_by i item))))
report_by room i (Err r) = refused_rows i.number r

-- what is printed for a line, where its listing has so much room
unfoldable pub report_of : ℕ → Input → List ℕ
report_of room i = report_by room i (lexed i).outcome

-- ---- as the program reads a line
abbrev pub input_of : ℕ → List ℕ → Input
input_of number l =
    record { line = l; number = number; options = plain; remarks = replicate 1000 1 }

-- what is printed for a line that has a number, with room enough for any
unfoldable pub report : ℕ → List ℕ → List ℕ
report number l = report_of longest (input_of number l)
