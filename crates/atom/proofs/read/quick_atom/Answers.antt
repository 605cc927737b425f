-- `atom::read::quick_atom` meets its contract: each value is its reader's, and all of them are fine.
-- Assumes nothing.
use Rattle.std.proofs.Common.{◌≡◌, refl, sym, ◌∙◌, Bool, true, false, cond, ◌∷◌, Some, None}
use Rattle.line.specs.Given.{alone}
use Rattle.field.specs.Number.{zero_real, one_real, read_at, real_faults}
use Rattle.field.specs.Table.{line_fine}
use Rattle.field.specs.Table.Entry.{r}
use Rattle.field.proofs.Laws.Either.{value_any}
use Rattle.field.proofs.Laws.Fine.{fine-append}
use Rattle.field.proofs.Laws.Found.{fine-some}
use Rattle.atom.specs.Atom.{Field, at, basics_table, position_table, placed_of}
use Rattle.atom.proofs.read.quick_atom.Goals as goal

-- what stands for a test that holds is found where it does
found-some : {A : Type 0} (so : Bool) (v : A) {x : A} → Some x ≡ cond so (Some v) None → (x ≡ v) × (so ≡ true)
found-some true v e = (cc, refl)
found-some false v e = cc

pub returns : goal.returns
returns c =
    let l = c.args.line.now in
    let share = at Field.occupancy in
    let factor = at Field.bfactor in
    let (placed, p) = found-some (line_fine l position_table) (placed_of false l) c.in_ok-placed.ensures in
    let (o, q) = fine-some (real_faults false l share) (read_at false l share zero_real) (sym c.in_ok-occupancy.ensures) in
    let (b, s) = fine-some (real_faults false l factor) (read_at false l factor zero_real) (sym c.in_ok-bfactor.ensures) in
    let (basics, f) = c.in_ok-basics.ensures in (
      c.atom_of.ensures ∙ rw (placed, o, b, basics, value_any l share q zero_real one_real) refl,
      fine-append (alone l) position_table (r share one_real ∷ r factor zero_real ∷ basics_table) ∙ rw (p, q, s, f) refl,
    )
