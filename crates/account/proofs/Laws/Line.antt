-- What is printed for a line that the program reads, by its kind's faults.
--     account-told     cut at its LFs, it is its first row, the line, and a row for each fault of the kind's table, in their order
--     account-quiet    nothing, exactly when there is no such fault
-- Assumes nothing.
use Prim.Native.Nat.{ℕ}
use mathlib.Core.Path.{◌≡◌, refl, sym, ◌∙◌}
use mathlib.Core.List.{List, [], ◌∷◌, ◌++◌, map}
use Rattle.std.specs.Prelude.{Ok}
use lib.ListN.{length}
use Rattle.lexer.specs.Lexed.{lexed}
use Rattle.lexer.specs.Refusals.{Input, kind, faults}
use Rattle.lexer.proofs.Laws.Accepted.{accepted-answer, accepted-faults}
use Rattle.lexitem.specs.Fault.{stamped_as}
use Rattle.lexitem.specs.declared.item.LexItem.{LexItem}
use Rattle.line.specs.declared.fault.Fault.{Fault}
use Rattle.account.specs.Account.{shown_line, fault_row, head, is_cut, unread, input_of, account}
use Rattle.account.specs.Rows.{rows_of}
use Rattle.account.proofs.Laws.Told.{told_once, quiet}

module _ (number : ℕ) (l : List ℕ) (x : LexItem) (read : (lexed (input_of number l)).outcome ≡ Ok x) where
  abbrev i : Input
  i = input_of number l

  pub account-told : (f : Fault) (fs : List Fault) → faults i ≡ f ∷ fs
      → rows_of (account number l)
      ≡ (head number (kind i) l ++ unread (is_cut (faults i)) (length l) (length (faults i))) ∷ shown_line l ∷ map (fault_row (kind i)) (faults i)
  unfolding account stamped_as
  account-told f fs h =
      told_once l (lexed i) x read f fs (accepted-faults i x read ∙ h) ∙ rw (accepted-faults i x read, accepted-answer i x read) refl

  pub account-quiet : (faults i ≡ [] → account number l ≡ []) × (account number l ≡ [] → faults i ≡ [])
  unfolding account
  account-quiet =
      let q = quiet l (lexed i) x read in
      (λ e. q.0 (accepted-faults i x read ∙ e), λ e. sym (accepted-faults i x read) ∙ q.1 e)
