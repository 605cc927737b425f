-- `atom::read::quick_position` meets its contract: each value is its columns', read as a word, and all three are fine; or one isn't.
-- Assumes nothing.
use Rattle.std.proofs.Common.{◌≡◌, refl, sym, false, List, [], ◌∷◌, None}
use Rattle.line.specs.declared.fault.Fault.{Fault}
use Rattle.field.specs.Found.{is_fine, fine}
use Rattle.field.specs.Number.{zero_real, read_at, real_faults}
use Rattle.field.proofs.Laws.Found.{fine-some}
use Rattle.atom.specs.Atom.{Field, at}
use Rattle.atom.proofs.read.quick_position.Goals as goal

-- what wasn't found isn't fine
fine-not : {A : Type 0} (own : List Fault) (v : A) → fine own v ≡ None → is_fine own ≡ false
fine-not [] v e = cc
fine-not (f ∷ t) v e = refl

pub returns-in_err-x : goal.returns-in_err-x
returns-in_err-x c =
    let l = c.args.line.now in
    let x = fine-not (real_faults false l (at Field.x)) (read_at false l (at Field.x) zero_real) (sym c.in_err-x.ensures) in
    rw (c.from_residual.ensures, x) refl

pub returns-in_err-y : goal.returns-in_err-y
returns-in_err-y c =
    let l = c.args.line.now in
    let (x, p) = fine-some (real_faults false l (at Field.x)) (read_at false l (at Field.x) zero_real) (sym c.in_ok-x.ensures) in
    let y = fine-not (real_faults false l (at Field.y)) (read_at false l (at Field.y) zero_real) (sym c.in_err-y.ensures) in
    rw (c.from_residual-in_err-y.ensures, p, y) refl

pub returns-in_err-z : goal.returns-in_err-z
returns-in_err-z c =
    let l = c.args.line.now in
    let (x, p) = fine-some (real_faults false l (at Field.x)) (read_at false l (at Field.x) zero_real) (sym c.in_ok-x.ensures) in
    let (y, q) = fine-some (real_faults false l (at Field.y)) (read_at false l (at Field.y) zero_real) (sym c.in_ok-y.ensures) in
    let z = fine-not (real_faults false l (at Field.z)) (read_at false l (at Field.z) zero_real) (sym c.in_err-z.ensures) in
    rw (c.from_residual-in_err-z.ensures, p, q, z) refl

pub returns : goal.returns
returns c =
    let l = c.args.line.now in
    let (x, p) = fine-some (real_faults false l (at Field.x)) (read_at false l (at Field.x) zero_real) (sym c.in_ok-x.ensures) in
    let (y, q) = fine-some (real_faults false l (at Field.y)) (read_at false l (at Field.y) zero_real) (sym c.in_ok-y.ensures) in
    let (z, r) = fine-some (real_faults false l (at Field.z)) (read_at false l (at Field.z) zero_real) (sym c.in_ok-z.ensures) in
    rw (p, q, r, c.placed_of.ensures, x, y, z) refl
