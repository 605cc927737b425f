-- `names::called_at` meets its contract: the table that the code holds is the one that the definition says.
-- Assumes nothing.
use mathlib.Core.Path.{ap, ◌∙◌}
use Prim.Native.Nat.{ℕ}
use Rattle.names.specs.Names.{fields, called_in}
use Rattle.names.proofs.called_at.Goals as goal

pub returns : goal.returns
unfolding fields
returns c = c.called_in.ensures ∙ ap (λ (family : ℕ). called_in family c.args.column fields) c.family_of.ensures
