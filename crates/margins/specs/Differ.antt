-- "Take two lines of the same length, all bytes below 128, the same first six bytes (or all of a shorter line), the same options, table and line
-- number. If they differ only in columns that 01's table, as amended by mode, gives to no field of that kind, .."
use Rattle.std.specs.Prelude.{ℕ, ◌<◌, ◌≡◌, false, List, length, take, get_or}
use Rattle.lexer.specs.Refusals.{Input, kind}
use Rattle.margins.specs.Taken.{given_to}

-- every byte is below 128; past the end stands 0
abbrev pub Low : List ℕ → Type 0
Low l = (column : ℕ) → get_or l column 0 < 128

-- an input with another line
abbrev pub with_line : Input → List ℕ → Input
with_line i l = record { line = l; number = i.number; options = i.options; remarks = i.remarks }

-- another line for an input, that differs only in columns given to no field of its kind
pub record Differ (i : Input) (m : List ℕ) : Type 0 where
  pub long : length i.line ≡ length m
  pub first : take 6 i.line ≡ take 6 m
  pub low : Low i.line
  pub other : Low m
  pub only : (column : ℕ) → (get_or i.line column 0 ≡ get_or m column 0 → ⊥) → given_to i.options.mode (kind i) column ≡ false
