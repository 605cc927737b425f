-- `names::put_name` meets its contract: the field that is called there has it.
-- Assumes nothing.
use mathlib.Core.Path.{ap, ◌∙◌}
use Rattle.page.specs.Page.{put}
use Rattle.names.specs.Names.{Called, name_of}
use Rattle.names.proofs.put_name.Goals as goal

pub returns : goal.returns
unfolding name_of
returns c = c.put_bytes.ensures ∙ ap (put _) (ap (λ (f : Called). f.name) c.called_at.ensures)
