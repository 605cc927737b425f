-- "Refusals by number, in order of testing: given exactly when, place, length." The table of 01 once more, in words of numbers: a rule says which
-- refusals it gives, and a line's refusal is what the first rule that holds gives. One list serves the three entries: "the first gives refusals 2
-- and 3 only. The second tests its line again: 1, 2, 3, then a new 15, then the rest." Nothing here is a test.
use Rattle.std.specs.Prelude.{ℕ, ◌-◌, ◌^◌, ◌<◌, ◌≤◌, min, ◌≡◌, ◌≢◌, ◌⊎◌, false, List, [], ◌∷◌, length, get_or, Result, Ok, Err}
use Rattle.number.specs.Trim.{end_trimmed}
use Rattle.lexitem.specs.declared.answer.Refusal.{Refusal}
use Rattle.kind.specs.declared.Kind.{Kind}
use Rattle.kind.specs.declared.Kind.TheVariants.{Header, Remark, Cryst1, Seqadv, Modres, Ssbond}
use Rattle.lexer.specs.Lexed.{lexed, lexed_as, kind_asked}
use Rattle.lexer.specs.Refusals.{Input, Asking, kind, given}
use Rattle.lexer.specs.Refusals.Asking.{its_kind, its_record, record_as}
use Rattle.lexitem.specs.Describe.{item_of}
use Rattle.lexitem.specs.Answer.{refusal}
use Rattle.lexitem.specs.declared.item.LexItem.{LexItem}

-- "For an answer that is an enum, a definition gives this paper's number and values for each case": an outcome by its number, place and length;
-- 0, which is no refusal's number, stands for a record
abbrev pub numbers_of : Result LexItem Refusal → ℕ × ℕ × ℕ
numbers_of (Ok x) = (0, 0, 0)
numbers_of (Err r) = (r.number, r.place, r.length)

-- a rule, as which refusals it gives
abbrev pub Rule : Type 1
Rule = Refusal → Type 0

-- "1: remark table isn't 1,000 bytes; 0, 0"
abbrev pub table_rule : Input → Rule
table_rule i r = (length i.remarks ≢ 1000) × (r ≡ refusal 1 0 0)

-- "2: line over 1,024 bytes; 1024, excess", which "stops at 2^32-1"
abbrev pub length_rule : Input → Rule
length_rule i r = (1024 < length i.line) × (r ≡ refusal 2 1024 (min (length i.line - 1024) (2 ^ 32 - 1)))

-- a byte of 128 or more stands at the place, and none before it
pub record FirstHigh (l : List ℕ) (place : ℕ) : Type 0 where
  pub reached : place < length l
  pub high : 128 ≤ get_or l place 0
  pub before : (at : ℕ) → at < place → get_or l at 0 < 128

-- "3: a byte of 128 or more; first such, 1"
abbrev pub byte_rule : Input → Rule
byte_rule i r = (place : ℕ) × FirstHigh i.line place × (r ≡ refusal 3 place 1)

-- "4: HEADER under 66; 11, len-11, or 0 if len is under 11". Subtraction stops at 0
abbrev pub header_rule : Input → Rule
header_rule i r = (kind i ≡ Header) × (length i.line < 66) × (r ≡ refusal 4 11 (length i.line - 11))

-- "5: REMARK over 11 long whose end-trimmed length is 80 or more, not loose; 80, len-80"
abbrev pub remark_rule : Input → Rule
remark_rule i r =
    (kind i ≡ Remark)
    × (11 < length i.line)
    × (80 ≤ length (end_trimmed i.line))
    × (i.options.loose ≡ false)
    × (r ≡ refusal 5 80 (length i.line - 80))

-- the least length of a kind that has one
pub data Least : Kind → ℕ → Type 0 where
  cryst1 : Least Cryst1 55
  modres : Least Modres 29
  seqadv : Least Seqadv 49
  ssbond : Least Ssbond 36

-- "6: CRYST1 under 55, MODRES under 29, SEQADV under 49, SSBOND under 36; len, missing bytes"
abbrev pub least_rule : Input → Rule
least_rule i r =
    (least : ℕ) × Least (kind i) least × (length i.line < least) × (r ≡ refusal 6 (length i.line) (least - length i.line))

-- ---- by what is asked
-- who asks for a record
abbrev pub Reading : Asking → Type 0
Reading its_kind = ⊥
Reading its_record = Unit {0}
Reading (record_as k) = Unit {0}

-- a rule for those alone
abbrev pub reading : Asking → Rule → Rule
reading a rule r = Reading a × rule r

-- the kind handed in isn't the line's
abbrev pub Another : Asking → Kind → Type 0
Another its_kind j = ⊥
Another its_record j = ⊥
Another (record_as k) j = k ≢ j

-- "15 (0, 0) exactly when the kind handed to it isn't the one the first gives"
abbrev pub kind_rule : Asking → Input → Rule
kind_rule a i r = Another a (kind i) × (r ≡ refusal 15 0 0)

-- in order of testing
abbrev pub rules : Asking → Input → List Rule
rules a i =
    reading a (table_rule i)
    ∷ length_rule i
    ∷ byte_rule i
    ∷ kind_rule a i
    ∷ reading a (header_rule i)
    ∷ reading a (remark_rule i)
    ∷ reading a (least_rule i)
    ∷ []

-- the numbers of the refusals that there are
abbrev pub numbers : Asking → List ℕ
numbers its_kind = 2 ∷ 3 ∷ []
numbers its_record = 1 ∷ 2 ∷ 3 ∷ 4 ∷ 5 ∷ 6 ∷ []
numbers (record_as k) = 1 ∷ 2 ∷ 3 ∷ 15 ∷ 4 ∷ 5 ∷ 6 ∷ []

abbrev pub OneOf : ℕ → List ℕ → Type 0
OneOf n [] = ⊥
OneOf n (m ∷ ms) = (n ≡ m) ⊎ OneOf n ms

-- ---- what an entry answers
-- a refusal
abbrev pub Refuses : Asking → Input → Refusal → Type 0
Refuses its_kind i r = kind_asked i.line i.options ≡ Err r
Refuses its_record i r = (lexed i).outcome ≡ Err r
Refuses (record_as k) i r = (lexed_as k i).outcome ≡ Err r

-- the line's kind, or the record of its kind
abbrev pub Answers : Asking → Input → Type 0
Answers its_kind i = kind_asked i.line i.options ≡ Ok (kind i)
Answers its_record i = (lexed i).outcome ≡ Ok (item_of (kind i) (given i))
Answers (record_as k) i = (lexed_as k i).outcome ≡ Ok (item_of (kind i) (given i))

-- the rule doesn't hold
abbrev pub Silent : Rule → Type 0
Silent rule = (r : Refusal) → rule r → ⊥

-- the first rule that holds gives r
abbrev pub First : List Rule → Refusal → Type 0
First [] r = ⊥
First (rule ∷ rest) r = rule r ⊎ (Silent rule × First rest r)

-- no rule holds
abbrev pub Passed : List Rule → Type 0
Passed [] = Unit {0}
Passed (rule ∷ rest) = Silent rule × Passed rest
