-- "The old entry remains as the two in sequence, refusal 1 still first, with the same answers on every input."
use Rattle.std.specs.Prelude.{[], ◌∷◌, Result, Ok, Err}
use Rattle.lexitem.specs.declared.answer.Answer.{Answer}
use Rattle.lexitem.specs.declared.answer.Refusal.{Refusal}
use Rattle.kind.specs.declared.Kind.{Kind}
use Rattle.lexer.specs.Lexed.{refused, first_of, lexed_as, kind_asked}
use Rattle.lexer.specs.Refusals.{Input, table_test}
use Rattle.lexer.specs.Refusals.Asking.{its_record}

-- what is asked first, and then the reading of the line as that kind
abbrev pub next : Input → Result Kind Refusal → Answer
next i (Ok k) = lexed_as k i
next i (Err r) = refused i r

abbrev pub in_sequence : Input → Answer
in_sequence i = first_of (refused i) (table_test its_record i.remarks ∷ []) (next i (kind_asked i.line i.options))
