-- `parts::put::put_over` meets its contract: the rows of a refusal have room.
-- Assumes nothing.
use mathlib.Core.Path.{sym, ap, ◌∙◌}
use lib.Seq.{length-take-le}
use Rattle.lexitem.specs.Answer.{refusal}
use Rattle.parts.proofs.Laws.Put.{puts-lent, over-few}
use Rattle.parts.proofs.put.put_over.Goals as goal

pub slice_bounds-put_refused-end-2 : goal.slice_bounds-put_refused-end-2
slice_bounds-put_refused-end-2 c = sym (length-take-le 4096 c.args.out.now c.requires)

pub returns : goal.returns
returns c =
    let why = c.new-why.ensures ∙ ap (refusal 2 1024) c.excess.ensures in
    puts-lent _ _ _ _ c.requires (over-few c.args.number c.args.size) (rw why at c.put_refused.ensures)
