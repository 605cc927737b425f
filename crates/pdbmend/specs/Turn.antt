-- What there is to write for lines, on two outputs: "standard input to standard output line by line, with a row on standard error for each change and
-- for each line that was left cut". A line ends at LF; the LF, and a CR just before it, stand behind the mended line as they stood behind the line. A
-- last piece that no LF ends is a line, and keeps a CR at its end.
use Rattle.std.specs.Prelude.{ℕ, suc, ◌+◌, ◌-◌, ◌≡◌, Bool, true, false, cond, List, [], ◌∷◌, ◌++◌, length, take, drop, eqb, ltb}
use Rattle.page.specs.Page.{page, put}
use Rattle.repair.specs.Repair.{line_for, rows_for}
use Rattle.repair.specs.declared.Repaired.{Repaired}
use Rattle.walker.specs.Lines.{number_behind}
use Rattle.pdbmend.specs.Held.{State, state, none, text_of, stop, size_in, most_kept, filled}
use Rattle.pdbmend.specs.declared.turn.Turned.{Turned}

-- ---- what is written on the two outputs
pub record Said : Type 0 where
  pub out : List ℕ
  pub rows : List ℕ

abbrev pub said : List ℕ → List ℕ → Said
said out rows = record { out = out; rows = rows }

abbrev pub both : Said → Said → Said
both a b = said (a.out ++ b.out) (a.rows ++ b.rows)

-- ---- lines
-- a line that no LF ends
abbrev pub last_as : ℕ → List ℕ → Said
last_as number t = said (line_for t) (rows_for number t)

-- a line that an LF ends, and its end
abbrev pub line_in : List ℕ → List ℕ
line_in t = take (size_in t (length t)) t

abbrev pub ended_as : ℕ → List ℕ → Said
ended_as number t = said (line_for (line_in t) ++ drop (size_in t (length t)) t ++ 10 ∷ []) (rows_for number (line_in t))

-- all that there is to write for an input, behind bytes of a line that has a number
unfoldable pub whole_said : ℕ → List ℕ → List ℕ → Said
whole_said number t [] = last_as number t
whole_said number t (b ∷ rest) =
    cond (eqb b 10) (both (ended_as number t) (whole_said (number_behind number) [] rest)) (whole_said number (t ++ b ∷ []) rest)

-- for an input from its begin on
abbrev pub mended_input : List ℕ → Said
mended_input f = whole_said 1 [] f

-- ---- turn by turn
-- of a line that has too many bytes, those that are held go on as they are
abbrev pub text_as : Bool → ℕ → List ℕ → Said
text_as true number t = said t []
text_as false number t = last_as number t

abbrev pub end_as : Bool → ℕ → List ℕ → Said
end_as true number t = said (t ++ 10 ∷ []) []
end_as false number t = ended_as number t

abbrev pub text_said : State → Said
text_said s = text_as s.held.over s.held.number (text_of s)

abbrev pub ended_said : State → Said
ended_said s = end_as s.held.over s.held.number (text_of s)

-- what is written, what is held then, and how many bytes were taken
pub record Turn : Type 0 where
  pub says : Said
  pub after : State
  pub taken : ℕ

-- what is held with the bytes that are taken
abbrev pub absorbed : State → List ℕ → State
absorbed s t =
    state (record { n = s.held.n + stop (most_kept - s.held.n) t; over = s.held.over; number = s.held.number }) (filled s.held.n s.kept t)

unfoldable pub turn : State → List ℕ → Turn
turn s t =
    cond (eqb (absorbed s t).held.n most_kept)
    (record {
      says = text_said (absorbed s t);
      after = state (record { n = 0; over = true; number = s.held.number }) (absorbed s t).kept;
      taken = stop (most_kept - s.held.n) t;
    })
    (cond (ltb (stop (most_kept - s.held.n) t) (length t))
    (record {
      says = ended_said (absorbed s t);
      after = state (none (number_behind s.held.number)) (absorbed s t).kept;
      taken = suc (stop (most_kept - s.held.n) t);
    })
    (record { says = said [] []; after = absorbed s t; taken = stop (most_kept - s.held.n) t }))

-- ---- the words of the code
-- two texts, each at the front of lent bytes
pub record Puts (x : Said) (out rows written told : List ℕ) (r : Repaired) : Type 0 where
  pub puts : page written r.n ≡ put (page out 0) x.out
  pub tells : page told r.rows ≡ put (page rows 0) x.rows

pub record Turns (x : Turn) (at : ℕ) (out rows written told kept : List ℕ) (r : Turned) : Type 0 where
  pub holds : ◌≡◌ {A = State} (state r.held kept) x.after
  pub offset : r.at ≡ at + x.taken
  pub puts : page written r.n ≡ put (page out 0) x.says.out
  pub tells : page told r.rows ≡ put (page rows 0) x.says.rows
