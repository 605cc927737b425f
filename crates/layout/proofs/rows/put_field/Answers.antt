-- `layout::rows::put_field` meets its contract: what is put is the view.
-- Assumes nothing.
use Rattle.layout.proofs.rows.put_field.Goals as goal

pub returns : goal.returns
returns c = rw (← c.view.ensures) c.put_escaped.ensures
