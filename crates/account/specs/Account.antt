-- "One command that says, for a file, whether it was read, and where not": what is printed for a line. "Carets stand under the very columns of the fault
-- (bytes outside 32 to 126 are shown as one mark each, so that columns stay true). Columns are counted from 1 for people. A refused line says why in a
-- sentence, with its place." A line that was read whole has no bytes. Every row ends with LF.
use Rattle.std.specs.Prelude.{ℕ, ◌+◌, ◌-◌, min, Bool, false, cond, ◌&&◌, ◌||◌, List, [], ◌∷◌, ◌++◌, eqb, leb, ltb, length, take, drop, replicate, Result, Ok, Err}
use Rattle.kind.specs.Kind.{number_of as kindNumber}
use Rattle.kind.specs.Name.{name_of as kindName}
use Rattle.kind.specs.declared.Kind.{Kind}
use Rattle.layout.specs.Each.{each}
use Rattle.lexer.specs.Lexed.{lexed}
use Rattle.lexer.specs.Refusals.{Input}
use Rattle.lexitem.specs.Fault.{told, faults_in}
use Rattle.lexitem.specs.declared.answer.Answer.{Answer}
use Rattle.lexitem.specs.declared.answer.Refusal.{Refusal}
use Rattle.lexitem.specs.declared.fault.LineFaults.{LineFaults}
use Rattle.lexitem.specs.declared.item.LexItem.{LexItem}
use Rattle.line.specs.Bytes.{bytes}
use Rattle.line.specs.Columns.{◌⋯◌, reached_of}
use Rattle.line.specs.Faults.{number_of as faultNumber}
use Rattle.line.specs.Options.{plain}
use Rattle.line.specs.declared.fault.Fault.{Fault}
use Rattle.names.specs.Names.{name_of, default_text}
use Rattle.number.specs.Trim.{trimmed}
use Rattle.page.specs.Numerals.{decimal}

-- a number between two texts
unfoldable pub numbered : List ℕ → ℕ → List ℕ → List ℕ
numbered before n after = before ++ decimal n ++ after

-- ---- a line as it is shown
-- a mark stands for a byte outside 32 to 126
unfoldable pub mark : ℕ → ℕ
mark b = cond (leb 32 b && leb b 126) b 63

abbrev pub marked : List ℕ → List ℕ
marked t = each (λ (b : ℕ). mark b ∷ []) t

-- the first 120 bytes, and whether there are more
unfoldable pub shown_line : List ℕ → List ℕ
shown_line t = bytes "    " ++ marked (take 120 t) ++ cond (ltb 120 (length t)) (bytes " ..\n") (bytes "\n")

-- ---- a fault
-- carets under its columns; none beyond those that are shown
unfoldable pub under : ℕ → ℕ → List ℕ
under place size = replicate (4 + place) 32 ++ replicate (min size (120 - place)) 94

-- the field's name, and what was put there
unfoldable pub named : Kind → ℕ → List ℕ
named kind place = bytes " " ++ name_of kind place ++ bytes ": not read; "

unfoldable pub said : Kind → ℕ → List ℕ
said kind place = named kind place ++ default_text kind place ++ bytes " was put there\n"

unfoldable pub fault_row : Kind → Fault → List ℕ
fault_row kind f = under f.place f.length ++ said kind f.place

abbrev pub fault_rows : Kind → List Fault → List ℕ
fault_rows kind fs = each (fault_row kind) fs

-- ---- whose line it is
-- a text behind a blank, if there is one
unfoldable pub word : List ℕ → List ℕ
word t = cond (eqb (length t) 0) [] (bytes " " ++ marked t)

unfoldable pub word_at : List ℕ → ℕ → ℕ → List ℕ
word_at l start end = word (trimmed (reached_of l (start ⋯ end)))

-- serial number, name, residue, chain and residue number
unfoldable pub atom_words : List ℕ → List ℕ
atom_words l = word_at l 6 11 ++ word_at l 12 16 ++ word_at l 17 20 ++ word_at l 21 22 ++ word_at l 22 27

-- ATOM, HETATM and ANISOU have these columns
unfoldable pub words : Kind → List ℕ → List ℕ
words kind l = cond (leb 3 (kindNumber kind) && leb (kindNumber kind) 5) (atom_words l) []

unfoldable pub head : ℕ → Kind → List ℕ → List ℕ
head number kind l = numbered (bytes "line ") number (bytes ", ") ++ kindName kind ++ words kind l

-- ---- a line with faults
-- whether the line ends too early for one of them
unfoldable pub is_cut : List Fault → Bool
is_cut [] = false
is_cut (f ∷ t) = eqb (faultNumber f.kind) 1 || is_cut t

-- what there is to say of a line of so many bytes and faults
unfoldable pub unread : Bool → ℕ → ℕ → List ℕ
unread cut size count =
    cond cut
    (numbered (bytes ": the line ends after column ") size (bytes "\n"))
    (cond (eqb count 1) (bytes ": 1 field was not read\n") (numbered (bytes ": ") count (bytes " fields were not read\n")))

unfoldable pub unread_rows : ℕ → Kind → List ℕ → List Fault → List ℕ
unread_rows number kind l fs =
    head number kind l ++ unread (is_cut fs) (length l) (length fs) ++ shown_line l ++ fault_rows kind fs

unfoldable pub accepted_rows : ℕ → Kind → List ℕ → List Fault → List ℕ
accepted_rows number kind l fs = cond (eqb (length fs) 0) [] (unread_rows number kind l fs)

-- ---- a refused line
unfoldable pub plural : ℕ → List ℕ
plural n = cond (eqb n 1) [] (bytes "s")

-- a place as a column; no line that is looked at goes on behind column 1024
unfoldable pub column_of : ℕ → ℕ
column_of place = min place 1024 + 1

unfoldable pub too_long : ℕ → List ℕ
too_long size = numbered (bytes "it has ") size (bytes " byte") ++ plural size ++ bytes " behind column 1024, the last that is read\n"

unfoldable pub high_byte : ℕ → List ℕ
high_byte place = numbered (bytes "the byte in column ") (column_of place) (bytes " is above 127\n")

unfoldable pub too_early : ℕ → List ℕ
too_early size = numbered (bytes ", ") size (bytes " column") ++ plural size ++ bytes " too early\n"

unfoldable pub too_short : ℕ → ℕ → List ℕ
too_short place size = bytes "it ends after column " ++ decimal place ++ too_early size

unfoldable pub otherwise : ℕ → List ℕ
otherwise number =
    cond (eqb number 4) (bytes "a HEADER line that ends before column 66\n")
    (cond (eqb number 5) (bytes "a REMARK line with text in column 80 or behind it\n") (bytes "it was refused\n"))

unfoldable pub why : ℕ → ℕ → ℕ → List ℕ
why number place size =
    cond (eqb number 2) (too_long size) (cond (eqb number 3) (high_byte place) (cond (eqb number 6) (too_short place size) (otherwise number)))

-- where the part of a line that is shown begins, so that a place is in it
unfoldable pub shown_from : ℕ → ℕ
shown_from place = cond (ltb place 100) 0 (place - 60)

-- the part around the place; none of a line that is too long to be held
unfoldable pub around : List ℕ → ℕ → ℕ → List ℕ
around l number place = cond (eqb number 2) [] (shown_line (drop (shown_from place) l))

unfoldable pub refused_rows : ℕ → List ℕ → Refusal → List ℕ
refused_rows line l r =
    numbered (bytes "line ") line (bytes ": not read: ") ++ why r.number r.place r.length ++ around l r.number r.place

-- ---- a line by its answer
abbrev pub account_by : List ℕ → ℕ → LineFaults → Result LexItem Refusal → List ℕ
account_by l line fs (Ok item) = accepted_rows line fs.kind l (faults_in (told fs))
account_by l line fs (Err r) = refused_rows line l r

abbrev pub account_of : List ℕ → Answer → List ℕ
account_of l a = account_by l a.line a.faults a.outcome

-- ---- a line as the program reads it: all kinds, not loose, in crate mode, without exponents, every remark number valid
abbrev pub input_of : ℕ → List ℕ → Input
input_of number l = record { line = l; number = number; options = plain; remarks = replicate 1000 1 }

unfoldable pub account : ℕ → List ℕ → List ℕ
account number l = account_of l (lexed (input_of number l))
