-- `number::word::five` meets its contract: the bytes of the text, each by itself, are the text.
-- Assumes nothing.
use Prim.Native.Nat.{ℕ}
use mathlib.Core.Path.{◌∙◌}
use mathlib.Core.List.{List, [], ◌∷◌, ◌++◌}
use lib.ListN.{take, drop}
use Rattle.number.proofs.Laws.Shape.{filled_is, filled_not}
use Rattle.number.proofs.word.five.Goals as goal

abbrev fill : List ℕ → List ℕ
fill u = take 4 u ++ 46 ∷ (drop 4 u ++ 48 ∷ 48 ∷ [])

pub returns-then-text-ne5 : goal.returns-then-text-ne5
returns-then-text-ne5 c = filled_not 5 c.args.text.now fill c.if-text-ne5.true

pub returns : goal.returns
returns c = let t = c.args.text.now in c.word.ensures ∙ filled_is 5 t fill c.if-text-ne5.false
