-- `lexer::highest` meets its contract. The loop's invariant: the highest of all bytes is that of those from here, after the one held.
-- Assumes nothing.
use mathlib.Core.Path.{◌≡◌}
use lib.ListN.{drop}
use Rattle.lexer.specs.Steps.{highest}
use Rattle.lexer.proofs.highest.Given as goal

abbrev pub invariant-loop-b : goal.invariant-loop-b
invariant-loop-b l = highest 0 l.line ≡ highest l.most (drop l.b-index l.line)
