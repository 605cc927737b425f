-- `layout::rows::put_row` meets its contract: the calls put the parts of `row_bytes` one behind the other.
-- Assumes nothing.
use mathlib.Core.Path.{refl, sym, ◌∙◌}
use Rattle.layout.specs.Row.{row_bytes}
use Rattle.page.proofs.Laws.Page.{put_then}
use Rattle.page.specs.Page.{put}
use Rattle.layout.proofs.rows.put_row.Goals as goal

pub returns-then-is_present : goal.returns-then-is_present
unfolding row_bytes
returns-then-is_present c =
    rw (sym c.is_present.ensures ∙ c.if-is_present.true)
    (put_then _ _ _ _ _ (put_then _ _ _ _ _ (put_then _ _ _ _ _ (put_then _ _ _ _ _ c.put_byte-column.ensures
    c.put_column-equals.ensures)
    c.put_byte-start.ensures)
    c.put_value-end.ensures)
    c.put_byte.ensures)

pub returns : goal.returns
unfolding row_bytes put
returns c = rw (sym c.is_present.ensures ∙ c.if-is_present.false) refl
