-- "Add a checker of a whole lent file against its MASTER record. Refusals, in this order: 10 no MASTER line (0, 0); 11 more than one (where the
-- second starts, its length); 12 the MASTER line has a fault, is refused by the lexer or is six bytes long (where it starts, its length)."
use Rattle.std.specs.Prelude.{ℕ, ◌+◌, cond, List, [], ◌∷◌, length, Option, Some, None, Result, Ok, Err}
use Rattle.carry.specs.Pieces.{Stretch, stretches_of}
use Rattle.lexitem.specs.Answer.{refusal}
use Rattle.tally.specs.Names.{is_master}
use Rattle.tally.specs.Tally.{count_over}
use Rattle.walker.specs.Lines.{lines_of}
use Rattle.audit.specs.Said.{said_of}
use Rattle.lexitem.specs.declared.answer.Refusal.{Refusal}
use Rattle.master.specs.declared.record.Master.{Master}
use Rattle.audit.specs.declared.Compared.{Compared}

-- a line, and where it starts
pub record Placed : Type 0 where
  pub start : ℕ
  pub text : List ℕ

abbrev pub placed_at : ℕ → List ℕ → Placed
placed_at start text = record { start = start; text = text }

-- lines from an offset on, each with the offset that it starts at: behind what the one before takes up
abbrev pub placed : ℕ → List Stretch → List Placed
placed at [] = []
placed at (s ∷ ss) = placed_at at s.text ∷ placed (at + s.taken) ss

-- those of them that are MASTER lines
abbrev pub masters : List Placed → List Placed
masters [] = []
masters (p ∷ ps) = cond (is_master p.text) (p ∷ masters ps) (masters ps)

unfoldable pub masters_of : List ℕ → List Placed
masters_of f = masters (placed 0 (stretches_of f))

-- ---- what is answered
abbrev pub Checked : Type 0
Checked = Result Compared Refusal

abbrev pub refused : ℕ → ℕ → ℕ → Checked
refused number place length = Err (refusal number place length)

abbrev pub held_by : List (List ℕ) → Placed → Option Master → Checked
held_by ls p None = refused 12 p.start (length p.text)
held_by ls p (Some m) = Ok (record { counted = count_over ls; said = m })

-- the count over lines beside what their one MASTER line says
abbrev pub held : List (List ℕ) → Placed → Checked
held ls p = held_by ls p (said_of p.text)

-- by the MASTER lines that there are
abbrev pub judged : List (List ℕ) → List Placed → Checked
judged ls [] = refused 10 0 0
judged ls (p ∷ []) = held ls p
judged ls (p ∷ q ∷ ps) = refused 11 q.start (length q.text)

unfoldable pub checked : List ℕ → Checked
checked f = judged (lines_of f) (masters_of f)
