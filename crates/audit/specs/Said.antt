-- "12 the MASTER line has a fault, is refused by the lexer or is six bytes long." It is read with the plain options: all kinds, not loose, in crate
-- mode, every remark number valid.
use Rattle.std.specs.Prelude.{ℕ, Bool, true, false, cond, ◌||◌, List, eqb, ltb, length, replicate, Option, Some, None, Result, Ok, Err}
use Rattle.lexer.specs.Lexed.{lexed}
use Rattle.lexer.specs.Refusals.{Input}
use Rattle.lexitem.specs.declared.answer.Answer.{Answer}
use Rattle.lexitem.specs.declared.answer.Refusal.{Refusal}
use Rattle.lexitem.specs.declared.item.LexItem.{LexItem}
use Rattle.lexitem.specs.declared.item.LexItem.TheVariants as item
use Rattle.line.specs.Options.{plain}
use Rattle.master.specs.Master.{master_of}
use Rattle.master.specs.declared.record.Master.{Master}

-- a line as the checker has it read; the number is handed through
abbrev pub reading : List ℕ → Input
reading l = record { line = l; number = 1; options = plain; remarks = replicate 1000 1 }

abbrev pub answer : List ℕ → Answer
answer l = lexed (reading l)

abbrev pub is_refused : Result LexItem Refusal → Bool
is_refused (Ok x) = false
is_refused (Err r) = true

unfoldable pub is_unread : List ℕ → Bool
is_unread l = ltb 0 (answer l).faults.count || is_refused (answer l).outcome || eqb (length l) 6

-- what a MASTER line says
abbrev pub said_of : List ℕ → Option Master
said_of l = cond (is_unread l) None (Some (master_of l))

-- ---- the word of a helper
-- what the record says that came of a line
abbrev pub said_by : LexItem → Option Master
said_by (item.Master v) = Some v
said_by _ = None

abbrev pub said_in : Result LexItem Refusal → Option Master
said_in (Ok x) = said_by x
said_in (Err r) = None
