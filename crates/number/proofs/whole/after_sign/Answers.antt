-- `number::whole::after_sign` meets its contract: a text that begins with a sign has one byte at least.
-- Assumes nothing.
use mathlib.Core.Path.{sym, ◌∙◌}
use Rattle.number.proofs.Laws.Digits.{begins-long, sign-plus, sign-minus, sign-none}
use Rattle.number.proofs.whole.after_sign.Goals.{then-begins-via-then-begins, then-begins-via-else-begins+then-begins-2}
use Rattle.number.proofs.whole.after_sign.Goals as goal

pub slice_bounds-result-count : goal.slice_bounds-result-count
slice_bounds-result-count c = elim c.then-begins.branch [
  | then-begins-via-then-begins w ↦ begins-long 43 _ (sym c.begins.ensures ∙ w.if-begins.true)
  | then-begins-via-else-begins+then-begins-2 w ↦ begins-long 45 _ (sym w.begins-else-begins.ensures ∙ w.if-begins-2.true)
]

pub slice_bounds-result-start : goal.slice_bounds-result-start
slice_bounds-result-start c = elim c.then-begins.branch [
  | then-begins-via-then-begins w ↦ begins-long 43 _ (sym c.begins.ensures ∙ w.if-begins.true)
  | then-begins-via-else-begins+then-begins-2 w ↦ begins-long 45 _ (sym w.begins-else-begins.ensures ∙ w.if-begins-2.true)
]

pub returns-then-begins : goal.returns-then-begins
returns-then-begins c = elim c.then-begins.branch [
  | then-begins-via-then-begins w ↦ sign-plus _ (sym c.begins.ensures ∙ w.if-begins.true)
  | then-begins-via-else-begins+then-begins-2 w ↦ sign-minus _ (sym c.begins.ensures ∙ w.if-begins.false) (sym w.begins-else-begins.ensures ∙ w.if-begins-2.true)
]

pub returns : goal.returns
returns c =
    sign-none _ (sym c.begins.ensures ∙ c.if-begins.false)
    (sym c.begins-else-begins.ensures ∙ c.if-begins-2.false)
