-- A record of another kind is refused for its name, whatever the room, and the lent bytes stay.
-- Assumes nothing.
use mathlib.Core.Path.{refl}
use mathlib.Core.List.{List}
use Prim.Native.Nat.{ℕ}
use Rattle.line.specs.Columns.{◌⋯◌}
use Rattle.sheet.specs.Sheet.{Writes, other_kind, answer_of}
use Rattle.std.specs.Prelude.{Err}
use Rattle.sheet.specs.declared.Unwritten.TheVariants.{NoFit}

pub another : (old : List ℕ) → Writes old other_kind (Err (NoFit (0 ⋯ 6))) old
unfolding answer_of
another old = record { answers = refl; leaves = refl }
