-- "Refusals by number, in order of testing": a test says when a refusal is given and with which place and length, and the first that holds is
-- the answer. "Split the reading entry in two: one that says the kind of a line under given options, and one that reads a line as its kind." One
-- list serves all three entries; what is asked decides which of its tests can hold.
use Rattle.std.specs.Prelude.{ℕ, suc, ◌-◌, ◌^◌, min, Bool, true, false, cond, not, ◌&&◌, List, [], ◌∷◌, ◌++◌, length, ltb, leb, eqb}
use Rattle.number.specs.Trim.{kept}
use Rattle.line.specs.Given.{Given}
use Rattle.line.specs.declared.options.Options.{Options}
use Rattle.lexitem.specs.declared.answer.Refusal.{Refusal}
use Rattle.line.specs.declared.fault.Fault.{Fault}
use Rattle.kind.specs.Kind.{kind_of, number_of}
use Rattle.lexitem.specs.Answer.{refusal}
use Rattle.lexitem.specs.Describe.{bound_of, faults_of}
use Rattle.lexitem.specs.declared.bound.Bound.{Bound}
use Rattle.lexitem.specs.declared.bound.Bound.TheVariants as bound
use Rattle.kind.specs.declared.Kind.{Kind}

-- a line with its number, the options and the lent remark table
pub record Input : Type 0 where
  pub line : List ℕ
  pub number : ℕ
  pub options : Options
  pub remarks : List ℕ

abbrev pub kind : Input → Kind
kind i = kind_of i.options.atoms i.options.mode i.line

abbrev pub given : Input → Given
given i = record { line = i.line; options = i.options; remarks = i.remarks }

abbrev pub faults : Input → List Fault
faults i = faults_of (kind i) (given i)

-- what is asked of a line: its kind alone, its record, or its record as that of a kind
pub data Asking : Type 0 where
  its_kind : Asking
  its_record : Asking
  record_as : Kind → Asking

-- "the first gives refusals 2 and 3 only": the others are for who asks for a record
abbrev pub reads : Asking → Bool
reads its_kind = false
reads its_record = true
reads (record_as k) = true

-- "a new 15 (0, 0) exactly when the kind handed to it isn't the one the first gives"; a kind with a row above 2 has a number that no line's kind has
abbrev pub another : Asking → Kind → Bool
another its_kind j = false
another its_record j = false
another (record_as k) j = not (eqb (number_of k) (number_of j))

-- how many bytes stand before the first of 128 or more
unfoldable pub plain : List ℕ → ℕ
plain [] = 0
plain (b ∷ t) = cond (ltb b 128) (suc (plain t)) 0

-- "the excess stops at 2^32-1": by how many bytes a line of so many is over 1,024
abbrev pub excess : ℕ → ℕ
excess n = min (n - 1024) (2 ^ 32 - 1)

-- HEADER under 66
abbrev pub header_cut : Bound → List ℕ → Bool
header_cut bound.Header l = ltb (length l) 66
header_cut bound.Remark l = false
header_cut bound.Free l = false
header_cut (bound.Least n) l = false

-- REMARK over 11 long whose end-trimmed length is 80 or more, not loose
abbrev pub remark_long : Bound → List ℕ → Bool → Bool
remark_long bound.Header l loose = false
remark_long bound.Remark l loose = ltb 11 (length l) && leb 80 (kept l) && not loose
remark_long bound.Free l loose = false
remark_long (bound.Least n) l loose = false

-- how many bytes are missing: CRYST1 under 55, MODRES under 29, SEQADV under 49, SSBOND under 36
abbrev pub missing : Bound → List ℕ → ℕ
missing bound.Header l = 0
missing bound.Remark l = 0
missing bound.Free l = 0
missing (bound.Least n) l = n - length l

-- a row of the table: when it holds, and what it gives
pub record Test : Type 0 where
  pub holds : Bool
  pub gives : Refusal

abbrev pub test : Bool → ℕ → ℕ → ℕ → Test
test holds number place length = record { holds = holds; gives = refusal number place length }

abbrev pub table_test : Asking → List ℕ → Test
table_test a remarks = test (reads a && not (eqb (length remarks) 1000)) 1 0 0

-- of the line's bytes alone
abbrev pub line_tests : List ℕ → List Test
line_tests l =
    test (ltb 1024 (length l)) 2 1024 (excess (length l))
    ∷ test (ltb (plain l) (length l)) 3 (plain l) 1
    ∷ []

-- of what a kind asks of its line
abbrev pub own_tests : Asking → Bound → List ℕ → Bool → List Test
own_tests a b l loose =
    test (reads a && header_cut b l) 4 11 (length l - 11)
    ∷ test (reads a && remark_long b l loose) 5 80 (length l - 80)
    ∷ test (reads a && ltb 0 (missing b l)) 6 (length l) (missing b l)
    ∷ []

abbrev pub tests : Asking → Input → List Test
tests a i =
    (table_test a i.remarks ∷ line_tests i.line)
    ++ (test (another a (kind i)) 15 0 0 ∷ own_tests a (bound_of (kind i)) i.line i.options.loose)
