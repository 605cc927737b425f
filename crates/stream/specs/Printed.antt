-- "Program `pdblist` .. prints one listing a line", the input being fed to it in parts. No contract can say what a write does. So whoever hands
-- bytes to it has to say where in all that is to be printed they stand, and is told how far that goes; and what is held before a part has to be
-- what parts that came before it left.
use Rattle.std.specs.Prelude.{ℕ, ◌+◌, ◌^◌, ◌≤◌, ◌<◌, ◌≡◌, List, length, take, drop, replicate}
use Rattle.parts.specs.Feed.{part_text, part_state, parts_state}
use Rattle.carry.specs.Held.{State, begun}
use Rattle.carry.specs.declared.held.Held.{Held}

-- what is held at the begin
abbrev pub start : State
start = begun 1 (replicate 1024 0)

-- it is what parts left that came one behind the other
pub record Came (s : State) : Type 0 where
  pub parts : List (List ℕ)
  pub leave : s ≡ parts_state start parts

-- the most bytes that one read brings
abbrev pub most : ℕ
most = 65536

-- a part comes behind them, and its lines have numbers
pub record Comes (s : State) (part : List ℕ) : Type 0 where
  pub came : Came s
  pub size : length part ≤ most
  pub few : s.held.number + length part < 2 ^ 64

-- a text stands in another, behind so many bytes of it, and what is handed over so far can be counted
pub record Stands (all : List ℕ) (done : ℕ) (text : List ℕ) : Type 0 where
  pub within : done + length text ≤ length all
  pub bytes : text ≡ take (length text) (drop done all)
  pub short : length all < 2 ^ 64

-- all that there is to print for a part is handed over, and what it leaves is held
abbrev pub GoesOn : State → List ℕ → List ℕ → Held → ℕ → Type 0
GoesOn s part kept held done =
    (◌≡◌ {A = State} (record { held = held; kept = kept }) (part_state s part)) × (done ≡ length (part_text s part))
