-- What the three entries answer: the refusal of the first test that holds; else the line's kind, or the record of its kind with the faults of its
-- kind's table, each with the line's number and kind. A refusal has no record and an empty fault list, and the line's number is handed through.
use Rattle.std.specs.Prelude.{ℕ, cond, List, [], ◌∷◌, Ok, Err, Result}
use Rattle.line.specs.declared.options.Options.{Options}
use Rattle.line.specs.Faults.{no_faults, all_noted}
use Rattle.kind.specs.declared.Kind.{Kind}
use Rattle.lexitem.specs.declared.answer.Answer.{Answer}
use Rattle.lexitem.specs.declared.answer.Refusal.{Refusal}
use Rattle.lexitem.specs.Describe.{item_of}
use Rattle.lexitem.specs.Fault.{no_line_faults, stamped_as}
use Rattle.lexer.specs.Refusals.{Input, Test, tests, kind, given, faults}
use Rattle.lexer.specs.Refusals.Asking.{its_kind, its_record, record_as}

abbrev pub refused : Input → Refusal → Answer
refused i r = record { line = i.number; outcome = Err r; faults = no_line_faults }

abbrev pub accepted : Input → Answer
accepted i = record { line = i.number; outcome = Ok (item_of (kind i) (given i)); faults = stamped_as i.number (kind i) (all_noted no_faults (faults i)) }

-- what is made of the refusal of the first test that holds, or else
abbrev pub first_of : {A : Type 0} → (Refusal → A) → List Test → A → A
first_of refuse [] else = else
first_of refuse (r ∷ t) else = cond r.holds (refuse r.gives) (first_of refuse t else)

unfoldable pub lexed : Input → Answer
lexed i = first_of (refused i) (tests its_record i) (accepted i)

-- a line as one of a kind
unfoldable pub lexed_as : Kind → Input → Answer
lexed_as k i = first_of (refused i) (tests (record_as k) i) (accepted i)

-- a line and the options alone
abbrev pub bare : List ℕ → Options → Input
bare l options = record { line = l; number = 0; options = options; remarks = [] }

-- the kind of a line
unfoldable pub kind_asked : List ℕ → Options → Result Kind Refusal
kind_asked l options = first_of Err (tests its_kind (bare l options)) (Ok (kind (bare l options)))
