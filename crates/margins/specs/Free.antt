-- "Some sites put notes in unused columns": the columns that a kind's table gives to no field, as a list for them; the first six hold the kind's
-- name. A theorem says that these are they, and docs/MARGINS.md is made of the clauses of `free`.
use Rattle.std.specs.Prelude.{ℕ, Bool, false, ◌||◌, List, [], ◌∷◌, leb, eqb}
use Rattle.kind.specs.declared.Kind.{Kind}
use Rattle.kind.specs.declared.Kind.TheVariants.{Empty, Header, Remark, Atom, Hetatm, Anisou, Cryst1, Scale, Origx, Mtrix, Model, Master, Dbref, Dbref1, Dbref2, Seqres, Seqadv, Modres, Ssbond, Endmdl, Ter, End}
use Rattle.line.specs.Columns.{◌⋯◌}
use Rattle.line.specs.declared.columns.Columns.{Columns}
use Rattle.line.specs.declared.options.Mode.{Mode}
use Rattle.line.specs.declared.options.Mode.TheVariants.{Crate, WwPdb}
use Rattle.margins.specs.Taken.{inside}

-- one column, those of a..b, or all from one on
pub data Stretch : Type 0 where
  one : ℕ → Stretch
  to : Columns → Stretch
  from : ℕ → Stretch

abbrev pub free : Kind → Mode → List Stretch
free Empty mode = from 6 ∷ []
free Header mode = to (6 ⋯ 10) ∷ to (59 ⋯ 62) ∷ from 66 ∷ []
free Remark mode = one 6 ∷ one 10 ∷ []
free Atom mode = one 11 ∷ one 20 ∷ to (27 ⋯ 30) ∷ to (66 ⋯ 72) ∷ from 80 ∷ []
free Hetatm mode = one 11 ∷ one 20 ∷ to (27 ⋯ 30) ∷ to (66 ⋯ 72) ∷ from 80 ∷ []
free Anisou mode = one 11 ∷ one 20 ∷ one 27 ∷ to (70 ⋯ 72) ∷ from 80 ∷ []
free Cryst1 mode = one 54 ∷ []
free (Scale row) mode = to (6 ⋯ 10) ∷ to (40 ⋯ 45) ∷ from 55 ∷ []
free (Origx row) mode = to (6 ⋯ 10) ∷ to (40 ⋯ 45) ∷ from 55 ∷ []
free (Mtrix row) mode = one 6 ∷ to (40 ⋯ 45) ∷ to (55 ⋯ 59) ∷ from 60 ∷ []
free Model Crate = []
free Model WwPdb = to (6 ⋯ 10) ∷ from 14 ∷ []
free Master mode = to (6 ⋯ 10) ∷ from 70 ∷ []
free Dbref mode = one 6 ∷ one 11 ∷ one 13 ∷ one 19 ∷ one 25 ∷ one 32 ∷ one 41 ∷ one 54 ∷ one 61 ∷ from 68 ∷ []
free Dbref1 Crate = one 6 ∷ one 11 ∷ one 13 ∷ to (19 ⋯ 21) ∷ one 25 ∷ to (32 ⋯ 47) ∷ from 67 ∷ []
free Dbref1 WwPdb = one 6 ∷ one 11 ∷ one 13 ∷ one 19 ∷ one 25 ∷ to (32 ⋯ 47) ∷ from 67 ∷ []
free Dbref2 mode = one 6 ∷ one 11 ∷ to (13 ⋯ 18) ∷ to (40 ⋯ 45) ∷ to (55 ⋯ 57) ∷ from 67 ∷ []
free Seqres mode = one 6 ∷ one 10 ∷ one 12 ∷ to (17 ⋯ 19) ∷ from 70 ∷ []
free Seqadv mode = one 6 ∷ one 11 ∷ one 15 ∷ one 17 ∷ one 23 ∷ one 28 ∷ one 38 ∷ one 48 ∷ []
free Modres mode = one 6 ∷ one 11 ∷ one 15 ∷ one 17 ∷ one 23 ∷ to (27 ⋯ 29) ∷ []
free Ssbond mode =
    to (6 ⋯ 11) ∷ one 14 ∷ one 16 ∷ to (22 ⋯ 25) ∷ one 28 ∷ one 30 ∷ to (36 ⋯ 59) ∷ one 65 ∷ one 72 ∷ from 78 ∷ []
free Endmdl mode = from 6 ∷ []
free Ter mode = from 6 ∷ []
free End mode = from 6 ∷ []

abbrev pub covers : Stretch → ℕ → Bool
covers (one at) column = eqb column at
covers (to at) column = inside at column
covers (from start) column = leb start column

abbrev pub covered : List Stretch → ℕ → Bool
covered [] column = false
covered (s ∷ rest) column = covers s column || covered rest column
