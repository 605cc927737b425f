-- `field::number_field::fine_unsigned` meets its contract: columns that the line doesn't reach say no number.
-- Assumes nothing.
use Rattle.std.proofs.Common.{ap, ◌∙◌}
use Rattle.number.specs.Whole.{unsigned_of}
use Rattle.field.proofs.Laws.Fine.{unsigned-said}
use Rattle.field.proofs.number_field.fine_unsigned.Goals as goal

pub returns : goal.returns
returns c = c.read_unsigned.ensures ∙ ap unsigned_of c.part.ensures ∙ unsigned-said c.args.line.now c.args.at
