-- "The old entry remains as the two in sequence, refusal 1 still first, with the same answers on every input."
--     in_sequence_lem     asking for the kind and reading the line as that kind is lexing it
-- Assumes nothing.
use mathlib.Core.Path.{◌≡◌, refl, sym}
use mathlib.Core.Bool.{Bool, true, false, cond, not}
use Rattle.std.specs.Prelude.{Result, Ok, Err}
use borrow.Author.Tests.{eq-eqb}
use lib.ListN.{length}
use lib.Dec.{eqb}
use Rattle.kind.specs.Kind.{number_of}
use Rattle.lexitem.specs.declared.answer.Answer.{Answer}
use Rattle.lexitem.specs.declared.answer.Refusal.{Refusal}
use Rattle.lexitem.specs.Answer.{refusal}
use Rattle.lexer.specs.Lexed.{refused, lexed, lexed_as}
use Rattle.lexer.specs.Refusals.{Input, kind, given, line_tests}
use Rattle.lexer.specs.Steps.{passed, after, read_as}
use Rattle.lexer.proofs.Laws.Tests.{lexed-split, as_split, asked-split}
use Rattle.promises.specs.Sequence.{next, in_sequence}

module _ (i : Input) where
  abbrev read : Answer
  read = read_as i.number (kind i) (given i)

  -- by the test of the table and those of the line
  steps : (table : Bool) (own : Result (Unit {0}) Refusal)
      → lexed_as (kind i) i ≡ after (cond table (Err (refusal 1 0 0)) own) (refused i) read
      → after (cond table (Err (refusal 1 0 0)) own) (refused i) read
      ≡ cond table (refused i (refusal 1 0 0)) (next i (after own Err (Ok (kind i))))
  steps true own e = refl
  steps false (Ok none) e = sym e
  steps false (Err r) e = refl

  pub in_sequence_lem : lexed i ≡ in_sequence i
  in_sequence_lem =
      let n = number_of (kind i) in
      let k = as_split i (kind i) in
      let same = rw (eq-eqb n n refl) at k in
      rw (lexed-split i, asked-split i.line i.options) (steps (not (eqb (length i.remarks) 1000)) (passed (line_tests i.line)) same)
