-- `real::read_real` meets its contract: what the quick reading says is what the text says, and where it says nothing the text is read
-- from its front.
-- Assumes nothing.
use mathlib.Core.Path.{sym, ap, ◌∙◌}
use Rattle.std.specs.Prelude.{Some, option_map}
use Rattle.real.specs.Real.{real_of, real_from}
use Rattle.real.proofs.Laws.Real.{decimal-within}
use Rattle.real.proofs.read_real.Goals as goal

pub real_from-requires : goal.real_from-requires
real_from-requires c = decimal-within c.args.text.now (sym c.in_ok-decimal.ensures)

pub returns-in-Some : goal.returns-in-Some
returns-in-Some c = sym (rw c.in-Some.is at c.quick_real.ensures)

pub returns-in_err-decimal : goal.returns-in_err-decimal
unfolding real_of
returns-in_err-decimal c = c.from_residual.ensures ∙ ap (option_map real_from) c.in_err-decimal.ensures

pub returns : goal.returns
unfolding real_of
returns c = ap Some c.real_from.ensures ∙ ap (option_map real_from) c.in_ok-decimal.ensures
