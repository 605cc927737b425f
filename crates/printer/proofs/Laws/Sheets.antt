-- Small laws of the lines that are written.
--     name-six                   ATOM's name and HETATM's have six bytes
--     asked-at, asked-behind     how many decimals a real gets, by the code's test
-- Assumes nothing.
use mathlib.Core.Path.{◌≡◌, refl}
use Prim.Native.Nat.{ℕ, ◌≤◌, ◌<◌}
use mathlib.Core.Bool.{Bool, true, false}
use mathlib.Core.List.{List}
use borrow.Author.Tests.{lt-ltb, le-ltb}
use lib.ListN.{length, get_or}
use Rattle.printer.specs.Sheets.{places_at}
use Rattle.printer.specs.Steps.{atom_name}

pub name-six : (hetero : Bool) → length (atom_name hetero) ≡ 6
name-six true = refl
name-six false = refl

module _ (asked : List ℕ) (n format : ℕ) where
  pub asked-at : n < length asked → get_or asked n 0 ≡ places_at asked n format
  unfolding places_at
  asked-at h = rw (lt-ltb n (length asked) h) refl

  pub asked-behind : length asked ≤ n → format ≡ places_at asked n format
  unfolding places_at
  asked-behind h = rw (le-ltb n (length asked) h) refl
