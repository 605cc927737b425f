-- `answers::kinds::kind_word` meets its contract: a refusal of a kind is small enough for its parts to be packed.
-- Assumes nothing.
use mathlib.Core.Path.{◌∙◌}
use Rattle.packing.proofs.Laws.Packed.{packed-small}
use Rattle.answers.proofs.Laws.Ask.{refusal-small, word-is}
use Rattle.answers.proofs.kinds.kind_word.Goals as goal

pub returns-in-Err : goal.returns-in-Err
returns-in-Err c =
    let said = rw c.options_of.ensures at c.kind_line.ensures in
    let refused = c.in-Err.is in
    c.packed.ensures ∙ packed-small _ (refusal-small _ _ _ said refused) ∙ word-is _ _ _ said _ refused
