-- `field::number_field::fine_signed` meets its contract: columns that the line doesn't reach say no number.
-- Assumes nothing.
use Rattle.std.proofs.Common.{ap, ◌∙◌}
use Rattle.number.specs.Whole.{signed_of}
use Rattle.field.proofs.Laws.Fine.{signed-said}
use Rattle.field.proofs.number_field.fine_signed.Goals as goal

pub returns : goal.returns
returns c = c.read_signed.ensures ∙ ap signed_of c.part.ensures ∙ signed-said c.args.line.now c.args.at
