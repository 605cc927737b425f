-- `lexer::has_high` meets its contract. The loop's invariant: a high byte was seen, or each byte that was looked at is low.
-- Assumes nothing.
use Prim.Native.Nat.{ℕ, ◌+◌, ◌≤◌, ◌<◌}
use mathlib.Core.Bool.{Bool, true, false}
use mathlib.Core.List.{List}
use lib.ListN.{length, get_or}
use Rattle.lexer.specs.Refusals.{plain}
use Rattle.lexer.proofs.has_high.Given as goal

-- of the first i bytes, and of i from `behind` on
abbrev pub Seen : List ℕ → ℕ → ℕ → Bool → Type 0
Seen t behind i true = plain t < length t
Seen t behind i false = (p : ℕ) → p < i → (get_or t p 0 ≤ 127) × (get_or t (behind + p) 0 ≤ 127)

abbrev pub invariant-loop-i : goal.invariant-loop-i
invariant-loop-i l = Seen l.line l.behind l.i l.found
