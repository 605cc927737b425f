-- `atom::read::lex_atom` meets its contract: where every field of the table is fine, the table notes nothing, and the reals are plain decimals, which
-- are the same with exponents.
-- Assumes nothing.
use Prim.Native.Nat.{ℕ}
use mathlib.Core.Path.{◌≡◌, refl}
use mathlib.Core.Bool.{Bool, true, false, ◌&&◌}
use mathlib.Core.List.{List}
use Rattle.number.proofs.Laws.Choice.{and_left, and_right}
use Rattle.line.specs.Faults.{no_faults}
use Rattle.field.specs.Found.{is_fine}
use Rattle.field.specs.Number.{real_faults, zero_real, one_real}
use Rattle.field.specs.Table.{line_fine}
use Rattle.field.proofs.Laws.Either.{value-either, table-either}
use Rattle.field.proofs.Laws.Fine.{all-fine}
use Rattle.atom.specs.Atom.{Field, at, basics_table, atom_table, atom_of}
use Rattle.line.specs.Given.{taking}
use Rattle.atom.proofs.read.lex_atom.Goals as goal

-- an atom whose fields are all fine without exponents is the same with them
atom-either : (hetero on : Bool) (l : List ℕ) → line_fine l atom_table ≡ true → atom_of hetero false l ≡ atom_of hetero on l
atom-either hetero on l e =
    let fine : Field → Bool = λ f. is_fine (real_faults false l (at f)) in
    let others = line_fine l basics_table in
    let b = fine Field.bfactor in
    let o = fine Field.occupancy in
    let z = fine Field.z in
    let y = fine Field.y in
    let behind-x = and_right (fine Field.x) (y && (z && (o && (b && others)))) e in
    let behind-y = and_right y (z && (o && (b && others))) behind-x in
    let behind-z = and_right z (o && (b && others)) behind-y in
    let behind-o = and_right o (b && others) behind-z in
    let (x1, x2) = value-either l (at Field.x) (and_left (fine Field.x) (y && (z && (o && (b && others)))) e) on zero_real in
    let (y1, y2) = value-either l (at Field.y) (and_left y (z && (o && (b && others))) behind-x) on zero_real in
    let (z1, z2) = value-either l (at Field.z) (and_left z (o && (b && others)) behind-y) on zero_real in
    let (o1, o2) = value-either l (at Field.occupancy) (and_left o (b && others) behind-z) on one_real in
    let (b1, b2) = value-either l (at Field.bfactor) (and_left b others behind-o) on zero_real in
    rw (x1, x2, y1, y2, z1, z2, o1, o2, b1, b2) refl

pub returns-in-Some : goal.returns-in-Some
returns-in-Some c =
    let a = c.args in
    let l = a.line.now in
    let on = a.exponents in
    let got = rw c.in-Some.is at c.quick_atom.ensures in
    rw (c.none.ensures, got.0, atom-either a.hetero on l got.1, all-fine (taking on l) atom_table no_faults (table-either l on atom_table got.1)) refl
