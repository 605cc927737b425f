-- `names::put_default` meets its contract: the field that is called there has it.
-- Assumes nothing.
use mathlib.Core.Path.{ap, ◌∙◌}
use Rattle.page.specs.Page.{put}
use Rattle.names.specs.Names.{Called, default_text}
use Rattle.names.proofs.put_default.Goals as goal

pub returns : goal.returns
unfolding default_text
returns c = c.put_bytes.ensures ∙ ap (put _) (ap (λ (f : Called). f.default) c.called_at.ensures)
