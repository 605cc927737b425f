-- What `list_line` makes of an answer of the lexer, by its outcome.
--     fit-asks                            an accepted line's listing is as short as `fit` asks
--     listed-fit, measured-fit            what `fit` leaves then is what listing the line leaves, and so for what `measure` answers
--     listed-refused, measured-refused    a refusal is handed back
-- Assumes nothing.
use Prim.Native.Nat.{ℕ, ◌≤◌}
use mathlib.Core.Path.{◌≡◌, sym, ap, ◌∙◌}
use mathlib.Core.List.{List}
use Rattle.std.specs.Prelude.{Ok, Err, Result}
use native.Mathlib.Omega.{arith}
use lib.ListN.{length, take}
use Rattle.lexer.specs.Lexed.{lexed}
use Rattle.lexer.specs.Refusals.{Input, kind, given}
use Rattle.lexitem.proofs.Laws.Few.{faults_fifteen}
use Rattle.lexer.proofs.Laws.Accepted.{accepted-count}
use Rattle.lexitem.proofs.Laws.Fault.{told_in}
use Rattle.lexitem.specs.declared.answer.Answer.{Answer}
use Rattle.lexitem.specs.declared.answer.Refusal.{Refusal}
use Rattle.lexitem.specs.declared.item.LexItem.{LexItem}
use Rattle.listing.specs.Listed.{Fitted, ListedInto, fitted_answer, listed_answer, listed_bytes, measured}
use Rattle.listing.specs.Listing.{listing_of, longest}
use Rattle.listing.proofs.Laws.Longest.{listing_longest}

module _ (i : Input) (a : Answer) (x : LexItem) (e : a ≡ lexed i) (o : a.outcome ≡ Ok x) where
  so : (lexed i).outcome ≡ Ok x
  so = ap (λ (b : Answer). b.outcome) (sym e) ∙ o

  pub fit-asks : (a.faults.count ≤ 15) × (length (listing_of i.number i.line x (take a.faults.count a.faults.list)) ≤ longest)
  fit-asks =
      let count = accepted-count i x so in
      let few = faults_fifteen (kind i) (given i) in
      let long = rw (told_in (lexed i).faults) at (listing_longest i x so) in
      rw e ((omega arith), long)

  pub listed-fit : (before : List ℕ) (r : Result ℕ Refusal) (after : List ℕ)
      → Fitted before (listing_of i.number i.line x (take a.faults.count a.faults.list)) r after → ListedInto before i r after
  listed-fit before r after h =
      let f = rw (← told_in (lexed i).faults) at (rw e at h) in
      record {
        answer = f.answer ∙ ap (listed_answer (length before) i) (sym so);
        bytes = f.bytes ∙ ap (listed_bytes before i) (sym so);
      }

  pub measured-fit : (room : ℕ) (r : Result ℕ Refusal)
      → r ≡ fitted_answer room (listing_of i.number i.line x (take a.faults.count a.faults.list)) → r ≡ measured room i
  measured-fit room r h = rw (← told_in (lexed i).faults) at (rw e at h) ∙ ap (listed_answer room i) (sym so)

pub measured-refused : (i : Input) (a : Answer) (x : Refusal) (room : ℕ) → a ≡ lexed i → a.outcome ≡ Err x → Err x ≡ measured room i
measured-refused i a x room e o =
    let so : (lexed i).outcome ≡ Err x = ap (λ (b : Answer). b.outcome) (sym e) ∙ o in
    ap (listed_answer room i) (sym so)

pub listed-refused : (i : Input) (a : Answer) (x : Refusal) (before : List ℕ) → a ≡ lexed i → a.outcome ≡ Err x
    → ListedInto before i (Err x) before
listed-refused i a x before e o =
    let so : (lexed i).outcome ≡ Err x = ap (λ (b : Answer). b.outcome) (sym e) ∙ o in
    record { answer = measured-refused i a x (length before) e o; bytes = ap (listed_bytes before i) (sym so) }
