-- `names::put_group` meets its contract: the texts are the groups.
-- Assumes nothing.
use Rattle.names.specs.Names.{group_name}
use Rattle.names.proofs.put_group.Goals as goal

pub returns : goal.returns
unfolding group_name
returns c = c.put_text.ensures
