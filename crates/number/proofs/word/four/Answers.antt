-- `number::word::four` meets its contract: the bytes of the text, each by itself, are the text.
-- Assumes nothing.
use Prim.Native.Nat.{ℕ}
use mathlib.Core.Path.{◌∙◌}
use mathlib.Core.List.{List, ◌∷◌, ◌++◌}
use Rattle.number.specs.Word.{zeros}
use Rattle.number.proofs.Laws.Shape.{filled_is, filled_not}
use Rattle.number.proofs.word.four.Goals as goal

abbrev fill : List ℕ → List ℕ
fill u = u ++ 46 ∷ zeros 3

pub returns-then-text-ne4 : goal.returns-then-text-ne4
returns-then-text-ne4 c = filled_not 4 c.args.text.now fill c.if-text-ne4.true

pub returns : goal.returns
returns c = let t = c.args.text.now in c.word.ensures ∙ filled_is 4 t fill c.if-text-ne4.false
