-- `names::called_in` meets its contract: what is found is what is called there.
-- Assumes nothing.
use mathlib.Core.Path.{refl}
use Rattle.names.proofs.Laws.Table.{found}
use Rattle.names.proofs.called_in.Goals as goal

pub returns : goal.returns
returns c = found c.args.family c.args.column c.args.fields.now _ _ _ c.unwrap_or.ensures c.field_in.ensures refl
