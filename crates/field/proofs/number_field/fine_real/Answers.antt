-- `field::number_field::fine_real` meets its contract: columns that the line doesn't reach say no number.
-- Assumes nothing.
use Rattle.std.proofs.Common.{ap, sym, ◌∙◌, false}
use Rattle.real.specs.Real.{real_of}
use Rattle.real.proofs.Laws.WideReal.{off-is}
use Rattle.field.specs.Number.{zero_real}
use Rattle.field.proofs.Laws.Fine.{real-said}
use Rattle.field.proofs.number_field.fine_real.Goals as goal

pub returns : goal.returns
returns c =
    c.read_real.ensures ∙ ap real_of c.part.ensures ∙ sym (off-is _) ∙ real-said false c.args.line.now c.args.at zero_real
