-- `printer::atoms::write_atom` meets its contract: the parts are drawn one behind the other, and the line is ended.
-- Assumes nothing.
use mathlib.Core.Path.{refl}
use native.Mathlib.Omega.{arith}
use mir.Facts.{to_z-of_z}
use Rattle.sheet.proofs.Laws.Draft.{drawn-from, drawn-more}
use Rattle.sheet.proofs.Laws.Line.{drawn-writes}
use Rattle.printer.proofs.Laws.Sheets.{name-six}
use Rattle.printer.proofs.atoms.write_atom.Goals as goal

pub returns : goal.returns
returns c =
    let room = c.well_formed in
    drawn-writes _ (rw (name-six c.args.hetero) refl) _ _ _ _ _ _ (omega arith) refl c.end.ensures _ c.rule_off-ruled.ensures
    (drawn-more _ _ _ _ _ (rw (to_z-of_z c.ranges.charge) at c.draw_tail-drawn.ensures)
    (drawn-more _ _ _ _ _ c.draw_weights-weighed.ensures
    (drawn-more _ _ _ _ _ c.draw_position-positioned.ensures
    (drawn-more _ _ _ _ _ (rw (to_z-of_z c.ranges.number) at c.draw_residue-placed.ensures)
    (drawn-more _ _ _ _ _ c.draw_name-named.ensures
    (drawn-from _ _ c.begin_atom-begun.ensures))))))
