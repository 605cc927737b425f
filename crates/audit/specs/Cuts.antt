-- A file that comes in parts, "holding over an unfinished line": what is known after some of them, with what is held. The lines that stand whole in a
-- part are seen there; of a line that a cut goes through the first 1,024 bytes are kept, and how many there are.
use Rattle.std.specs.Prelude.{ℕ, ◌≡◌, cond, List, [], ◌∷◌, eqb, ltb, take, drop, replicate}
use Rattle.carry.specs.Held.{most_kept, State, begun, absorbed, ended_size}
use Rattle.carry.specs.Pieces.{stretches_of}
use Rattle.carry.specs.Whole.{ends, behind_lf, whole_length, whole_of}
use Rattle.walker.specs.Lines.{number_behind}
use Rattle.audit.specs.Watch.{seen, watched, fresh}
use Rattle.audit.specs.declared.feed.Watched.{Watched}
use Rattle.audit.specs.declared.watch.Watch.{Watch}

-- ---- a line that was held
unfoldable pub seen_held : Watch → List ℕ → ℕ → ℕ → Watch
seen_held w kept size taken = seen w (cond (ltb most_kept size) kept (take size kept)) size taken

-- an LF ends it; or the end of the input does, if a byte of it came
abbrev pub ended_watch : Watch → State → Watch
ended_watch w s = seen_held w s.kept (ended_size s.held) (number_behind s.held.total)

unfoldable pub last_watch : Watch → State → Watch
last_watch w s = cond (eqb s.held.total 0) w (seen_held w s.kept s.held.total s.held.total)

-- ---- a part
-- what is known, and what is held
pub record Progress : Type 0 where
  pub watch : Watch
  pub state : State

-- behind bytes before which nothing is held
abbrev pub freely : ℕ → Watch → List ℕ → List ℕ → Progress
freely number w kept t = record { watch = watched w (stretches_of (whole_of t)); state = absorbed (begun number kept) (drop (whole_length t) t) }

-- behind a part
unfoldable pub behind_part : Progress → List ℕ → Progress
behind_part x t =
    cond (eqb x.state.held.total 0)
    (freely x.state.held.number x.watch x.state.kept t)
    (cond (ends t)
    (freely (absorbed x.state t).held.number (ended_watch x.watch (absorbed x.state t)) (absorbed x.state t).kept (behind_lf t))
    (record { watch = x.watch; state = absorbed x.state t }))

-- behind one part after the other
unfoldable pub behind_parts : Progress → List (List ℕ) → Progress
behind_parts x [] = x
behind_parts x (a ∷ ps) = behind_parts (behind_part x a) ps

-- before the first one
abbrev pub start : Progress
start = record { watch = fresh; state = begun 1 (replicate 1024 0) }

-- the answer, and every lent byte
pub record Watches (x : Progress) (kept : List ℕ) (r : Watched) : Type 0 where
  pub answer : r ≡ record { held = x.state.held; watch = x.watch }
  pub keeps : kept ≡ x.state.kept
