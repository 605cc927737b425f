-- What an accepted line is: no test for a refusal holds of it.
--     accepted-answer    its answer is the record of its kind with the faults of its kind
--     accepted-item      so its record is that of its kind
--     accepted-line      it has at most 1,024 bytes
--     accepted-count     its faults are counted
--     accepted-told      and listed, in their order, each with the line's number and kind
--     accepted-faults    with the columns that the kind's table gives them
-- Assumes nothing.
use Prim.Native.Nat.{◌≤◌}
use mathlib.Core.Path.{◌≡◌, refl, sym, ap, ◌∙◌}
use mathlib.Core.Bool.{Bool, true, false, cond}
use mathlib.Core.List.{List, [], ◌∷◌}
use Rattle.std.specs.Prelude.{Ok}
use borrow.Author.Tests.{ltb-false}
use lib.ListN.{length, take, drop}
use Rattle.lexitem.specs.Describe.{item_of}
use Rattle.lexitem.specs.Fault.{stamped, stamped_as, told, faults_in}
use Rattle.lexer.specs.Lexed.{refused, accepted, first_of, lexed}
use Rattle.lexer.specs.Refusals.{Input, Test, tests, kind, given, faults}
use Rattle.lexer.specs.Refusals.Asking.{its_record}
use Rattle.lexitem.specs.declared.answer.Answer.{Answer}
use Rattle.lexitem.specs.declared.answer.Refusal.{Refusal}
use Rattle.lexitem.specs.declared.item.LexItem.{LexItem}
use Rattle.line.specs.Faults.{no_faults, all_noted}
use Rattle.line.proofs.Laws.Faults.{noted-exact, noted-listed}
use Rattle.lexitem.proofs.Laws.Few.{faults_fifteen}
use Rattle.lexitem.proofs.Laws.Fault.{told-stamped, in_stamped}

module _ (i : Input) (x : LexItem) where
  test_failed : (b : Bool) (r : Refusal) (else : Answer) → (cond b (refused i r) else).outcome ≡ Ok x → b ≡ false
  test_failed true r else e = cc
  test_failed false r else e = refl

  tests-passed : (rs : List Test) (else : Answer) → (first_of (refused i) rs else).outcome ≡ Ok x → first_of (refused i) rs else ≡ else
  tests-passed [] else e = refl
  tests-passed (r ∷ rest) else e = go r.holds (tests-passed rest else) e
    where
      go : (b : Bool) → ((first_of (refused i) rest else).outcome ≡ Ok x → first_of (refused i) rest else ≡ else)
          → (cond b (refused i r.gives) (first_of (refused i) rest else)).outcome ≡ Ok x
          → cond b (refused i r.gives) (first_of (refused i) rest else) ≡ else
      go true on e = cc
      go false on e = on e

  module _ (yes : (lexed i).outcome ≡ Ok x) where
    pub accepted-answer : lexed i ≡ accepted i
    unfolding lexed
    accepted-answer = tests-passed (tests its_record i) (accepted i) yes

    pub accepted-item : x ≡ item_of (kind i) (given i)
    accepted-item = let e = accepted-answer in cc

    pub accepted-line : length i.line ≤ 1024
    unfolding lexed
    accepted-line =
        let on = tests-passed (take 1 (tests its_record i)) (first_of (refused i) (drop 1 (tests its_record i)) (accepted i)) yes in
        ltb-false 1024 (length i.line)
        (test_failed _ _ (first_of (refused i) (drop 2 (tests its_record i)) (accepted i)) (ap (λ (a : Answer). a.outcome) (sym on) ∙ yes))

    pub accepted-count : (lexed i).faults.count ≡ length (faults i)
    unfolding stamped_as
    accepted-count = rw accepted-answer (noted-exact (faults i) (faults_fifteen (kind i) (given i)))

    pub accepted-told : told (lexed i).faults ≡ stamped i.number (kind i) (faults i)
    accepted-told =
        rw (accepted-answer, told-stamped i.number (kind i) (all_noted no_faults (faults i)), noted-listed (faults i) (faults_fifteen (kind i) (given i))) refl

    pub accepted-faults : faults_in (told (lexed i).faults) ≡ faults i
    accepted-faults = rw accepted-told (in_stamped i.number (kind i) (faults i))
