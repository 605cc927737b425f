-- `number::word::six` meets its contract: the bytes of the text, each by itself, are the text.
-- Assumes nothing.
use Prim.Native.Nat.{ℕ}
use mathlib.Core.Path.{◌∙◌}
use mathlib.Core.List.{List, [], ◌∷◌, ◌++◌}
use Rattle.number.proofs.Laws.Shape.{filled_is, filled_not}
use Rattle.number.proofs.word.six.Goals as goal

abbrev fill : List ℕ → List ℕ
fill u = 32 ∷ u ++ 48 ∷ []

pub returns-then-text-ne6 : goal.returns-then-text-ne6
returns-then-text-ne6 c = filled_not 6 c.args.text.now fill c.if-text-ne6.true

pub returns : goal.returns
returns c = let t = c.args.text.now in c.word.ensures ∙ filled_is 6 t fill c.if-text-ne6.false
