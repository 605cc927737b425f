-- `number::word::eight` meets its contract: the bytes of the text, each by itself, are the text.
-- Assumes nothing.
use Prim.Native.Nat.{ℕ}
use mathlib.Core.Path.{◌∙◌}
use mathlib.Core.List.{List}
use Rattle.number.proofs.Laws.Shape.{filled_is, filled_not}
use Rattle.number.proofs.word.eight.Goals as goal

abbrev fill : List ℕ → List ℕ
fill u = u

pub returns-then-text-ne8 : goal.returns-then-text-ne8
returns-then-text-ne8 c = filled_not 8 c.args.text.now fill c.if-text-ne8.true

pub returns : goal.returns
returns c = let t = c.args.text.now in c.word.ensures ∙ filled_is 8 t fill c.if-text-ne8.false
