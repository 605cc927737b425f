-- `writer::write_anisou_record` meets its contract: texts and characters are shown by their views.
-- Assumes nothing.
use mir.Syntax.{w64}
use mir.Facts.{to_z-of_z}
use Rattle.printer.specs.Sheets.{Label, anisou_sheet}
use Rattle.writer.proofs.Laws.Shown.{written_by_lem}
use Rattle.writer.proofs.write_anisou_record.Goals as goal

pub returns : goal.returns
returns c =
    let b = c.args.anisou.basics in
    written_by_lem (λ (v : Label). anisou_sheet v c.args.anisou.factors) _ _ _ b.serial _ _ _ _ _ _ _ _ _ _ _ _ _ _ _ _ _
    c.view.ensures
    c.view-2.ensures
    c.view-3.ensures
    (to_z-of_z {w = w64} {z = b.number} (record { sfits = c.struct_told-1.given.1.1.1.1.1.0.1 }))
    c.view-4.ensures
    c.view-5.ensures
    c.view-6.ensures
    (to_z-of_z {w = w64} {z = b.charge} (record { sfits = c.struct_told-2-1.given.1.1.1.1.1.1.1.1.1.0.1 }))
    c.write_anisou.ensures
