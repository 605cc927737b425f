-- The entries in the code's own steps: several tests are made first, and the others where none of them holds.
--     no_third         three tests whose third fails
--     first-split      tests in front of others
--     after-ok         none of the first holds
--     own-tests        those from 4 to 6, and what is accepted behind them
--     lexed-split      a line's record: 1 to 3, and then those
--     as_split         as one of a kind: 15 between them
--     asked-split      its kind: 2 and 3
-- Assumes nothing.
use Prim.Native.Nat.{ℕ, ◌-◌}
use mathlib.Core.Path.{◌≡◌, refl, ◌∙◌}
use mathlib.Core.Bool.{Bool, true, false, cond, not, ◌&&◌}
use mathlib.Core.List.{List, [], ◌∷◌, ◌++◌}
use Rattle.std.specs.Prelude.{Result, Ok, Err}
use native.Mathlib.Omega.{arith}
use borrow.Author.Tests.{lt-ltb, le-ltb, ltb-true, ltb-false}
use lib.ListN.{length}
use lib.Dec.{ltb, eqb}
use Rattle.field.proofs.Laws.Table.{table-noted}
use Rattle.line.specs.Faults.{no_faults}
use Rattle.line.specs.declared.options.Options.{Options}
use Rattle.kind.specs.Kind.{kind_of, number_of}
use Rattle.kind.specs.declared.Kind.{Kind}
use Rattle.lexitem.specs.declared.answer.Refusal.{Refusal}
use Rattle.lexitem.specs.Answer.{refusal}
use Rattle.lexitem.specs.Describe.{bound_of, fields_by, faults_of}
use Rattle.lexitem.specs.Read.{got_item}
use Rattle.lexitem.specs.declared.bound.Bound.{Bound}
use Rattle.lexitem.specs.declared.bound.Bound.TheVariants as bound
use Rattle.lexer.specs.Refusals.{Input, Test, kind, given, line_tests, own_tests, test}
use Rattle.lexer.specs.Refusals.Asking.{its_record}
use Rattle.lexer.specs.Lexed.{refused, accepted, first_of, lexed, lexed_as, kind_asked}
use Rattle.lexer.specs.Steps.{passed, after, entry_tests, own_test, header_test, remark_test, least_test, answer_of, read_as}

-- three tests whose third fails
pub no_third : (a b : Bool) → (a && b) && false ≡ false
no_third true true = refl
no_third true false = refl
no_third false b = refl

-- ---- tests in front of others
pub first-split : {A : Type 0} (refuse : Refusal → A) (ts rest : List Test) (else : A)
    → first_of refuse (ts ++ rest) else ≡ after (passed ts) refuse (first_of refuse rest else)
first-split refuse [] rest else = refl
first-split {A} refuse (t ∷ ts) rest else = go t.holds (first-split refuse ts rest else)
  where
    go : (b : Bool) → first_of refuse (ts ++ rest) else ≡ after (passed ts) refuse (first_of refuse rest else)
        → cond b (refuse t.gives) (first_of refuse (ts ++ rest) else)
        ≡ after (cond b (Err t.gives) (passed ts)) refuse (first_of refuse rest else)
    go true ih = refl
    go false ih = ih

pub after-ok : {A : Type 0} (r : Result (Unit {0}) Refusal) (refuse : Refusal → A) (rest : A)
    → ((x : Refusal) → r ≡ Err x → ⊥) → after r refuse rest ≡ rest
after-ok (Ok none) refuse rest h = refl
after-ok (Err x) refuse rest h = absurd (h x refl)

-- ---- what a kind asks of its line
-- bytes are missing exactly where the line is shorter
missing-test : (n m : ℕ) → ltb 0 (n - m) ≡ ltb m n
missing-test n m = go (ltb m n) refl
  where
    go : (b : Bool) → ltb m n ≡ b → ltb 0 (n - m) ≡ b
    go true e = let h = ltb-true m n e in lt-ltb 0 (n - m) (omega arith)
    go false e = let h = ltb-false m n e in le-ltb 0 (n - m) (omega arith)

own_first : (b : Bound) (l : List ℕ) (loose : Bool) → passed (own_tests its_record b l loose) ≡ own_test b l loose
unfolding header_test remark_test least_test
own_first bound.Header l loose = refl
own_first bound.Remark l loose = refl
own_first (bound.Least n) l loose = rw (missing-test n (length l)) refl
own_first bound.Free l loose = refl

module _ (i : Input) where
  -- what is accepted, with its faults as they were noted
  accepted_got : accepted i ≡ answer_of i.number (kind i) (got_item (kind i) (given i))
  unfolding faults_of
  accepted_got = rw (table-noted (given i) (fields_by (kind i) (given i)) no_faults) refl

  pub own-tests : first_of (refused i) (own_tests its_record (bound_of (kind i)) i.line i.options.loose) (accepted i)
      ≡ read_as i.number (kind i) (given i)
  unfolding read_as
  own-tests =
      let own = own_tests its_record (bound_of (kind i)) i.line i.options.loose in
      first-split (refused i) own [] (accepted i)
      ∙ rw (own_first (bound_of (kind i)) i.line i.options.loose, accepted_got) refl

  -- ---- the entries
  pub lexed-split : lexed i
      ≡ after (passed (entry_tests i.line i.remarks)) (refused i) (read_as i.number (kind i) (given i))
  unfolding lexed
  lexed-split =
      let own = own_tests its_record (bound_of (kind i)) i.line i.options.loose in
      first-split (refused i) (entry_tests i.line i.remarks) (test false 15 0 0 ∷ own) (accepted i) ∙ rw own-tests refl

  pub as_split : (k : Kind) → lexed_as k i
      ≡ after (passed (entry_tests i.line i.remarks)) (refused i)
      (cond (eqb (number_of k) (number_of (kind i))) (read_as i.number (kind i) (given i)) (refused i (refusal 15 0 0)))
  unfolding lexed_as
  as_split k =
      let own = own_tests its_record (bound_of (kind i)) i.line i.options.loose in
      let other = not (eqb (number_of k) (number_of (kind i))) in
      first-split (refused i) (entry_tests i.line i.remarks) (test other 15 0 0 ∷ own) (accepted i)
      ∙ rw (own-tests, turned (eqb (number_of k) (number_of (kind i)))) refl
    where
      turned : (b : Bool) → cond (not b) (refused i (refusal 15 0 0)) (read_as i.number (kind i) (given i))
          ≡ cond b (read_as i.number (kind i) (given i)) (refused i (refusal 15 0 0))
      turned true = refl
      turned false = refl

pub asked-split : (l : List ℕ) (options : Options) → kind_asked l options
    ≡ after (passed (line_tests l)) Err (Ok (kind_of options.atoms options.mode l))
unfolding kind_asked
asked-split l options = first-split Err (line_tests l) [] (Ok (kind_of options.atoms options.mode l))
