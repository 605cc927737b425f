-- `atom::read::quick_basics` meets its contract: each value is its reader's, and all of them are fine.
-- Assumes nothing.
use Rattle.std.proofs.Common.{refl, sym}
use Rattle.field.specs.Charge.{charge_at, charge_faults}
use Rattle.field.specs.Number.{unsigned_at, unsigned_faults, signed_at, signed_faults}
use Rattle.field.specs.Text.{text_at, text_faults, character_at, optional_at, character_faults}
use Rattle.field.proofs.Laws.Fields.{signed-held, charge-held}
use Rattle.field.proofs.Laws.Found.{fine-some}
use Rattle.atom.specs.Atom.{Field, at}
use Rattle.atom.proofs.read.quick_basics.Goals as goal

pub returns : goal.returns
returns c =
    let l = c.args.line.now in
    let (v0, f0) = fine-some (unsigned_faults l (at Field.serial)) (unsigned_at l (at Field.serial)) (sym c.in_ok-serial.ensures) in
    let (v1, f1) = fine-some (text_faults l (at Field.name)) (text_at l (at Field.name)) (sym c.in_ok-name.ensures) in
    let (v2, f2) = fine-some (character_faults l (at Field.alternate).start) (optional_at l (at Field.alternate).start) (sym c.in_ok-alternate.ensures) in
    let (v3, f3) = fine-some (text_faults l (at Field.residue)) (text_at l (at Field.residue)) (sym c.in_ok-residue.ensures) in
    let (v4, f4) = fine-some (character_faults l (at Field.chain).start) (character_at l (at Field.chain).start) (sym c.in_ok-chain.ensures) in
    let (v5, f5) = fine-some (signed_faults l (at Field.number)) (signed_at l (at Field.number)) (sym c.in_ok-number.ensures) in
    let (v6, f6) = fine-some (character_faults l (at Field.insertion).start) (optional_at l (at Field.insertion).start) (sym c.in_ok-insertion.ensures) in
    let (v7, f7) = fine-some (text_faults l (at Field.segment)) (text_at l (at Field.segment)) (sym c.in_ok-segment.ensures) in
    let (v8, f8) = fine-some (text_faults l (at Field.element)) (text_at l (at Field.element)) (sym c.in_ok-element.ensures) in
    let (v9, f9) = fine-some (charge_faults l (at Field.charge)) (charge_at l (at Field.charge)) (sym c.in_ok-charge.ensures) in (
      simp (c.new.ensures, v0, v1, v2, v3, v4, v5, v6, v7, v8, v9, signed-held, charge-held) refl,
      rw (f0, f1, f2, f3, f4, f5, f6, f7, f8, f9) refl,
    )
