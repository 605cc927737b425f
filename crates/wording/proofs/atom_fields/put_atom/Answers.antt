-- `wording::atom_fields::put_atom` meets its contract: the parts of the fields, one after the other. Without a character the words are those of any
-- line.
-- Assumes nothing.
use Prim.Native.Nat.{ℕ}
use mathlib.Core.Path.{◌≡◌, refl}
use mathlib.Core.List.{List, [], ◌∷◌}
use mir.Syntax.{w64}
use mir.Facts.{to_z-of_z}
use native.Mathlib.Omega.{arith}
use lib.Ieee.{Float}
use lib.IntN.{ℤ}
use Rattle.layout.specs.Each.{each}
use Rattle.line.specs.declared.text.Text.{Text}
use Rattle.row.specs.Rows.{◌is◌}
use Rattle.row.specs.declared.Value.TheVariants.{Real, Signed, Words}
use Rattle.wording.specs.Fields.{row_words, rows_words}
use Rattle.wording.proofs.Laws.Words.{puts-both, puts-most}
use Rattle.wording.proofs.atom_fields.put_atom.Goals as goal

reals_any : (l : List ℕ) (x y z occupancy bfactor : Float) (a b c d e : ℕ)
    → rows_words [] (30 is Real x a ∷ 38 is Real y b ∷ 46 is Real z c ∷ 54 is Real occupancy d ∷ 60 is Real bfactor e ∷ [])
    ≡ rows_words l (30 is Real x a ∷ 38 is Real y b ∷ 46 is Real z c ∷ 54 is Real occupancy d ∷ 60 is Real bfactor e ∷ [])
unfolding each row_words
reals_any l x y z occupancy bfactor a b c d e = refl

end-any : (l : List ℕ) (segment element : Text) (charge : ℤ)
    → rows_words [] (72 is Words segment ∷ 76 is Words element ∷ 78 is Signed charge ∷ [])
    ≡ rows_words l (72 is Words segment ∷ 76 is Words element ∷ 78 is Signed charge ∷ [])
unfolding each row_words
end-any l segment element charge = refl

pub put_residue-third-requires : goal.put_residue-third-requires
put_residue-third-requires c =
    let first = c.put_name-second in
    omega (arith, puts-most _ _ 3 refl first.ensures, first.auto.out, c.requires)

pub put_reals-fourth-requires : goal.put_reals-fourth-requires
put_reals-fourth-requires c =
    let first = c.put_name-second in
    let second = c.put_residue-third in
    omega (arith, puts-most _ _ 3 refl first.ensures, first.auto.out, puts-most _ _ 4 refl second.ensures, second.auto.out, c.requires)

pub put_end-requires : goal.put_end-requires
put_end-requires c =
    let first = c.put_name-second in
    let second = c.put_residue-third in
    let third = c.put_reals-fourth in
    omega
    (arith, puts-most _ _ 3 refl first.ensures, first.auto.out, puts-most _ _ 4 refl second.ensures, second.auto.out, puts-most _ _ 5 refl third.ensures, third.auto.out, c.requires)

pub returns : goal.returns
returns c =
    let l = c.args.line.now in
    let basics = c.args.atom.basics in
    let number = to_z-of_z {w = w64} {z = basics.number} (record { sfits = c.struct_told-1.given.1.1.1.1.1.0.1 }) in
    let charge = to_z-of_z {w = w64} {z = basics.charge} (record { sfits = c.struct_told-2-1.given.1.1.1.1.1.1.1.1.1.0.1 }) in
    let residue = rw number at c.put_residue-third.ensures in
    let reals = rw (reals_any l _ _ _ _ _ _ _ _ _ _) at c.put_reals-fourth.ensures in
    let end = rw (charge, end-any l _ _ _) at c.put_end.ensures in
    puts-both l _ _ c.put_name-second.ensures (puts-both l _ _ residue (puts-both l _ _ reals end))
