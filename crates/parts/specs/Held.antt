-- What is put for a line that was held. "A line over 1,024 bytes gives refusal 2 with its true excess, counted without being kept; the excess stops
-- at 2^32-1."
use Rattle.std.specs.Prelude.{ℕ, cond, List, [], take, eqb, ltb}
use Rattle.carry.specs.Held.{most_kept, State, ended_size}
use Rattle.lexer.specs.Refusals.{excess}
use Rattle.lexitem.specs.Answer.{refusal}
use Rattle.report.specs.Report.{refused_rows, report}

abbrev pub over_rows : ℕ → ℕ → List ℕ
over_rows number size = refused_rows number (refusal 2 1024 (excess size))

-- that has a number and so many bytes, the first of which are kept
unfoldable pub held_text : ℕ → ℕ → List ℕ → List ℕ
held_text number size kept = cond (ltb most_kept size) (over_rows number size) (report number (take size kept))

-- where an LF ends it
abbrev pub ended_text : State → List ℕ
ended_text s = held_text s.held.number (ended_size s.held) s.kept

-- at the end of the input: nothing if no byte of it came
unfoldable pub last_text : State → List ℕ
last_text s = cond (eqb s.held.total 0) [] (held_text s.held.number s.held.total s.kept)
