-- `wording::atom_fields::put_reals` meets its contract: the words of five rows, one after the other.
-- Assumes nothing.
use mathlib.Core.List.{[]}
use Rattle.wording.specs.Fields.{row_words}
use Rattle.wording.proofs.Laws.Words.{puts-last, puts-row}
use Rattle.wording.proofs.atom_fields.put_reals.Goals as goal

pub returns : goal.returns
unfolding row_words
returns c =
    puts-row [] _ _ c.put_real-second.ensures
    (puts-row [] _ _ c.put_real-third.ensures
    (puts-row [] _ _ c.put_real-fourth.ensures
    (puts-row [] _ _ c.put_real-fifth.ensures (puts-last [] _ c.put_real.ensures))))
