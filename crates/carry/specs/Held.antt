-- What is held over of an unfinished line: its first 1,024 bytes in a lent buffer, how many bytes came, and whether the last one is a CR, which
-- an LF may yet drop. "A line over 1,024 bytes" is "counted without being kept".
use Rattle.std.specs.Prelude.{ℕ, ◌+◌, ◌-◌, ◌^◌, min, ◌≡◌, false, cond, List, [], ◌∷◌, set, eqb, ltb}
use Rattle.carry.specs.declared.keep.Absorbed.{Absorbed}
use Rattle.carry.specs.declared.held.Held.{Held}
use Rattle.walker.specs.Lines.{before_lf}

-- how many bytes of a line are kept
abbrev pub most_kept : ℕ
most_kept = 1024

-- where the count stops: no input has so many bytes
abbrev pub most_count : ℕ
most_count = 2 ^ 64 - 1

-- what is held, with the lent bytes
pub record State : Type 0 where
  pub held : Held
  pub kept : List ℕ

-- nothing is held of a line that has a number
abbrev pub none : ℕ → Held
none number = record { total = 0; cr = false; number = number }

abbrev pub begun : ℕ → List ℕ → State
begun number kept = record { held = none number; kept = kept }

-- ---- a byte that is no LF, and all up to the next LF
abbrev pub stored : List ℕ → ℕ → ℕ → List ℕ
stored kept total b = cond (ltb total most_kept) (set kept total b) kept

unfoldable pub keep : State → ℕ → State
keep s b =
    record {
      held = record { total = min (s.held.total + 1) most_count; cr = eqb b 13; number = s.held.number };
      kept = stored s.kept s.held.total b;
    }

unfoldable pub absorbed : State → List ℕ → State
absorbed s [] = s
absorbed s (b ∷ t) = cond (eqb b 10) s (absorbed (keep s b) t)

-- how many bytes the line has where an LF ends it
abbrev pub ended_size : Held → ℕ
ended_size h = cond (eqb h.total 0) 0 (cond h.cr (h.total - 1) h.total)

-- ---- the word of a helper
-- what is held at the first LF from an offset on, or at the end of the bytes
pub record Absorbs (s : State) (t : List ℕ) (at : ℕ) (kept : List ℕ) (r : Absorbed) : Type 0 where
  pub state : ◌≡◌ {A = State} (record { held = r.held; kept = kept }) (absorbed s t)
  pub offset : r.at ≡ at + before_lf t
