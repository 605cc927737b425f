-- A file that comes byte by byte, so that it doesn't matter in which parts: what is known after some of them, and what is printed for each. Of an
-- unfinished line the first 1,024 bytes are kept, and how many there are; a longer one is refused by its length alone. No contract can say which bytes a
-- read brings or what a write does. So what is handed to `write` has to be what is due by what is known, and that has to be what bytes left that came.
use Rattle.std.specs.Prelude.{ℕ, Err, ◌+◌, ◌-◌, ◌^◌, ◌<◌, ◌≤◌, ◌≡◌, cond, List, [], ◌∷◌, ◌++◌, eqb, ltb, length, take, replicate}
use Rattle.account.specs.Account.{account_of}
use Rattle.carry.specs.Held.{most_kept, State, begun, keep, ended_size}
use Rattle.carry.specs.declared.held.Held.{Held}
use Rattle.ledger.specs.Ledger.{entered}
use Rattle.lexer.specs.Refusals.{excess}
use Rattle.lexitem.specs.Answer.{refusal}
use Rattle.lexitem.specs.Fault.{no_line_faults}
use Rattle.lexitem.specs.declared.answer.Answer.{Answer}
use Rattle.walker.specs.Lines.{number_behind}
use Rattle.pdbreport.specs.Told.{answer_of, fresh, accounts_of, summary_of}

-- ---- the line that is held, if it has a number and so many bytes
unfoldable pub held_line : ℕ → List ℕ → List ℕ
held_line size kept = cond (ltb most_kept size) kept (take size kept)

abbrev pub over_answer : ℕ → ℕ → Answer
over_answer number size = record { line = number; outcome = Err (refusal 2 1024 (excess size)); faults = no_line_faults }

unfoldable pub held_answer : ℕ → ℕ → List ℕ → Answer
held_answer number size kept = cond (ltb most_kept size) (over_answer number size) (answer_of number (take size kept))

unfoldable pub held_text : ℕ → ℕ → List ℕ → List ℕ
held_text number size kept = account_of (held_line size kept) (held_answer number size kept)

unfoldable pub held_ledger : List ℕ → ℕ → ℕ → List ℕ → List ℕ
held_ledger ws number size kept = entered ws (held_line size kept) (held_answer number size kept)

-- ---- a byte
-- the ledger, and what is held of an unfinished line
pub record Progress : Type 0 where
  pub ledger : List ℕ
  pub state : State

abbrev pub progress : List ℕ → Held → List ℕ → Progress
progress ledger held kept = record { ledger = ledger; state = record { held = held; kept = kept } }

abbrev pub ended : Progress → Progress
ended x =
    record {
      ledger = held_ledger x.ledger x.state.held.number (ended_size x.state.held) x.state.kept;
      state = begun (number_behind x.state.held.number) x.state.kept;
    }

unfoldable pub fed : Progress → ℕ → Progress
fed x b = cond (eqb b 10) (ended x) (record { ledger = x.ledger; state = keep x.state b })

-- what is printed for it
abbrev pub ended_text : Progress → List ℕ
ended_text x = held_text x.state.held.number (ended_size x.state.held) x.state.kept

unfoldable pub said : Progress → ℕ → List ℕ
said x b = cond (eqb b 10) (ended_text x) []

-- byte after byte
unfoldable pub fed_all : Progress → List ℕ → Progress
fed_all x [] = x
fed_all x (b ∷ t) = fed_all (fed x b) t

unfoldable pub said_all : Progress → List ℕ → List ℕ
said_all x [] = []
said_all x (b ∷ t) = said x b ++ said_all (fed x b) t

-- before the first one
abbrev pub start : Progress
start = record { ledger = fresh; state = begun 1 (replicate 1024 0) }

-- ---- the end of the input, which ends the line that is held if a byte of it came
unfoldable pub last_text : Progress → List ℕ
last_text x = cond (eqb x.state.held.total 0) [] (held_text x.state.held.number x.state.held.total x.state.kept)

unfoldable pub last_ledger : Progress → List ℕ
last_ledger x =
    cond (eqb x.state.held.total 0) x.ledger (held_ledger x.ledger x.state.held.number x.state.held.total x.state.kept)

-- ---- the words of the code
-- it is what bytes left that came, and with so many more every line has a number
pub record Came (x : Progress) (more : ℕ) : Type 0 where
  pub bytes : List ℕ
  pub leave : x ≡ fed_all start bytes
  pub few : length bytes + more + 2 < 2 ^ 64

-- how many bytes the line has that is held: an LF ends it, or the end of the input does
pub data Ends (h : Held) (size : ℕ) : Type 0 where
  by_lf : size ≡ ended_size h → Ends h size
  by_end : size ≡ h.total → (h.total ≡ 0 → ⊥) → Ends h size

-- a text is what is due then
pub record Due (x : Progress) (size : ℕ) (text : List ℕ) : Type 0 where
  pub came : Came x 0
  pub ends : Ends x.state.held size
  pub says : text ≡ held_text x.state.held.number size x.state.kept

-- a line with its answer is what is told of then
pub record Next (x : Progress) (size : ℕ) (line : List ℕ) (answer : Answer) : Type 0 where
  pub came : Came x 0
  pub ends : Ends x.state.held size
  pub text : line ≡ held_line size x.state.kept
  pub tells : answer ≡ held_answer x.state.held.number size x.state.kept

-- a text is the summary of all that came, and before it all accounts were due
pub record Sums (x : Progress) (text : List ℕ) : Type 0 where
  pub bytes : List ℕ
  pub leave : x ≡ fed_all start bytes
  pub due : said_all start bytes ++ last_text x ≡ accounts_of bytes
  pub says : text ≡ summary_of bytes

-- bytes of a part from an offset on were taken, one at least
pub record Takes (x : Progress) (t : List ℕ) (at : ℕ) (y : Progress) (next : ℕ) : Type 0 where
  pub further : at < next
  pub within : next ≤ at + length t
  pub leaves : y ≡ fed_all x (take (next - at) t)
