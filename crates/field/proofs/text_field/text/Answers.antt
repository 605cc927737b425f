-- `field::text_field::text` meets its contract: a fine field notes nothing, and one that isn't notes its one fault.
-- Assumes nothing.
use Rattle.std.proofs.Common.{rules, sym, ◌∙◌}
use Rattle.field.specs.Number.{short_at}
use Rattle.field.specs.Text.{text_at, text_faults}
use Rattle.field.proofs.Laws.Fine.{text-one, text-none}
use Rattle.field.proofs.Laws.Found.{got-found}
use Rattle.field.proofs.text_field.text.Goals as goal

pub returns : goal.returns
returns c =
    let l = c.args.line.now in
    let at = c.args.at in
    got-found (text_faults l at) (text_at l at) c.new.result (short_at at) c.args.faults _ c.fine_text.ensures (text-one l at)
    (λ e. text-none l at e ∙ sym c.new.ensures)
    (λ f p. search rules)
    c.found_or.ensures
