-- What feeding a part puts. An LF ends the line that is held; the lines behind it stand whole in the part, and are read from there; what follows
-- the last LF is held.
use Rattle.std.specs.Prelude.{ℕ, suc, ◌+◌, ◌≤◌, ◌≡◌, cond, ◌&&◌, List, [], ◌∷◌, ◌++◌, length, drop, eqb, ltb}
use Rattle.listing.specs.Listing.{longest}
use Rattle.carry.specs.Held.{State, begun, absorbed}
use Rattle.carry.specs.Whole.{ends, behind_lf, whole_length, whole_of, lines_in}
use Rattle.parts.specs.Held.{ended_text, last_text}
use Rattle.parts.specs.declared.Fed.{Fed}
use Rattle.report.specs.Fill.{Filling, filling, reports_from}
use Rattle.walker.specs.Lines.{before_lf, number_behind}

-- ---- a part
-- with nothing held: the reports of the lines that stand whole in it, and what is held then
abbrev pub free_text : ℕ → List ℕ → List ℕ
free_text number t = reports_from number (lines_in t)

abbrev pub free_state : ℕ → List ℕ → List ℕ → State
free_state number kept t = absorbed (begun (number + length (lines_in t)) kept) (drop (whole_length t) t)

-- what is put for a part
unfoldable pub part_text : State → List ℕ → List ℕ
part_text s t =
    cond (ends t)
    (cond (eqb s.held.total 0) (free_text s.held.number t)
    (ended_text (absorbed s t) ++ free_text (suc s.held.number) (behind_lf t)))
    []

-- what is held then
unfoldable pub part_state : State → List ℕ → State
part_state s t =
    cond (ends t)
    (cond (eqb s.held.total 0) (free_state s.held.number s.kept t)
    (free_state (suc s.held.number) (absorbed s t).kept (behind_lf t)))
    (absorbed s t)

-- what is put for parts, each behind what those before it left; and what is held then
unfoldable pub parts_text : State → List (List ℕ) → List ℕ
parts_text s [] = []
parts_text s (a ∷ ps) = part_text s a ++ parts_text (part_state s a) ps

unfoldable pub parts_state : State → List (List ℕ) → State
parts_state s [] = s
parts_state s (a ∷ ps) = parts_state (part_state s a) ps

-- ---- a turn: as much of a part as lent bytes have room for
-- what is put, what is held then, and how many bytes of the part were taken
pub record Turn : Type 0 where
  pub text : List ℕ
  pub state : State
  pub taken : ℕ

-- bytes up to the first LF, with the report of the line that it ends; or all of them
abbrev pub closed : State → List ℕ → Turn
closed s t =
    cond (ends t)
    (record { text = ended_text (absorbed s t); state = begun (number_behind (absorbed s t).held.number) (absorbed s t).kept; taken = suc (before_lf t) })
    (record { text = []; state = absorbed s t; taken = before_lf t })

-- lines that stand whole in the part
abbrev pub whole : Filling → State → Turn
whole f s = record { text = f.text; state = begun f.number s.kept; taken = f.at }

unfoldable pub turn : ℕ → State → List ℕ → Turn
turn room s t =
    cond (ltb room longest) (record { text = []; state = s; taken = 0 })
    (cond (eqb s.held.total 0 && ends t) (whole (filling room (whole_of t) 0 s.held.number) s) (closed s t))

-- a turn from an offset on: the answer, and every lent byte
pub record Feeds (x : Turn) (at : ℕ) (before after kept : List ℕ) (r : Fed) : Type 0 where
  pub answer : r ≡ record { held = x.state.held; at = at + x.taken; n = length x.text }
  pub keeps : kept ≡ x.state.kept
  pub bytes : after ≡ x.text ++ drop (length x.text) before

-- ---- turn after turn
-- what is put in one room after the other, each turn going on where the one before stopped; and what is held then
unfoldable pub turns_text : List ℕ → State → List ℕ → List ℕ
turns_text [] s t = []
turns_text (room ∷ rooms) s t = (turn room s t).text ++ turns_text rooms (turn room s t).state (drop (turn room s t).taken t)

unfoldable pub turns_state : List ℕ → State → List ℕ → State
turns_state [] s t = s
turns_state (room ∷ rooms) s t = turns_state rooms (turn room s t).state (drop (turn room s t).taken t)

-- ---- the end of the input
abbrev pub ending : ℕ → State → List ℕ
ending room s = cond (ltb room longest) [] (last_text s)

-- a text at the front of lent bytes
pub record Puts (text before after : List ℕ) (r : ℕ) : Type 0 where
  pub count : r ≡ length text
  pub bytes : after ≡ text ++ drop (length text) before

-- ---- the words of the helpers
-- an offset behind the last LF from another offset on, where there is one
pub record Behind (part : List ℕ) (at behind : ℕ) : Type 0 where
  pub is : behind ≡ at + whole_length (drop at part)
  pub within : behind ≤ length part

-- a turn over lines that stand whole in the part
abbrev pub FeedsWhole : List ℕ → ℕ → ℕ → List ℕ → List ℕ → Fed → Type 0
FeedsWhole part at number before after r =
    (kept : List ℕ) →
    Feeds (whole (filling (length before) (whole_of (drop at part)) 0 number) (begun number kept)) at before after kept r
