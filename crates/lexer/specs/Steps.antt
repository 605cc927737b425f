-- The words of the helpers, which take the refusals in the code's own steps. No rule of 01 is here: `lex_line` is proved to answer `lexed`, and so
-- for the other entries.
use Rattle.std.specs.Prelude.{ℕ, ◌-◌, Bool, cond, not, ◌&&◌, List, [], ◌∷◌, length, ltb, leb, Result, Ok, Err}
use Rattle.number.specs.Trim.{kept}
use Rattle.kind.specs.declared.Kind.{Kind}
use Rattle.line.specs.Given.{Given}
use Rattle.lexitem.specs.declared.answer.Answer.{Answer}
use Rattle.lexitem.specs.declared.answer.Refusal.{Refusal}
use Rattle.lexitem.specs.Answer.{refusal}
use Rattle.lexitem.specs.Describe.{bound_of}
use Rattle.lexitem.specs.Fault.{no_line_faults, stamped_as}
use Rattle.lexitem.specs.Read.{got_item}
use Rattle.lexitem.specs.declared.bound.Bound.{Bound}
use Rattle.lexitem.specs.declared.bound.Bound.TheVariants as bound
use Rattle.lexitem.specs.declared.item.LexItem.{LexItem}
use Rattle.line.specs.declared.fault.Got.{Got}
use Rattle.lexer.specs.Refusals.{Test, table_test, line_tests}
use Rattle.lexer.specs.Refusals.Asking.{its_record}
use Rattle.lexer.specs.Lexed.{first_of}

-- the highest of m and a list's bytes
unfoldable pub highest : ℕ → List ℕ → ℕ
highest m [] = m
highest m (b ∷ t) = highest (cond (ltb m b) b m) t

-- what is left of some tests: the refusal of the first that holds, if one does
abbrev pub passed : List Test → Result (Unit {0}) Refusal
passed ts = first_of Err ts (Ok tt)

-- what is made of that refusal, or else
abbrev pub after : {A : Type 0} → Result (Unit {0}) Refusal → (Refusal → A) → A → A
after (Ok none) refuse else = else
after (Err r) refuse else = refuse r

-- what is tested before the kind, for who asks for a record
abbrev pub entry_tests : List ℕ → List ℕ → List Test
entry_tests l remarks = table_test its_record remarks ∷ line_tests l

unfoldable pub header_test : List ℕ → Result (Unit {0}) Refusal
header_test l = cond (ltb (length l) 66) (Err (refusal 4 11 (length l - 11))) (Ok tt)

unfoldable pub remark_test : List ℕ → Bool → Result (Unit {0}) Refusal
remark_test l loose = cond (ltb 11 (length l) && leb 80 (kept l) && not loose) (Err (refusal 5 80 (length l - 80))) (Ok tt)

unfoldable pub least_test : ℕ → List ℕ → Result (Unit {0}) Refusal
least_test n l = cond (ltb (length l) n) (Err (refusal 6 (length l) (n - length l))) (Ok tt)

abbrev pub own_test : Bound → List ℕ → Bool → Result (Unit {0}) Refusal
own_test bound.Header l loose = header_test l
own_test bound.Remark l loose = remark_test l loose
own_test (bound.Least n) l loose = least_test n l
own_test bound.Free l loose = Ok tt

abbrev pub refused_with : ℕ → Refusal → Answer
refused_with line r = record { line = line; outcome = Err r; faults = no_line_faults }

abbrev pub answer_of : ℕ → Kind → Got LexItem → Answer
answer_of line k x = record { line = line; outcome = Ok x.value; faults = stamped_as line k x.faults }

unfoldable pub read_as : ℕ → Kind → Given → Answer
read_as line k g =
    after (own_test (bound_of k) g.line g.options.loose) (refused_with line) (answer_of line k (got_item k g))
