-- What fields are called: those that can be faulted, by the kind of their line and the column that the fault names; what the record has in a field
-- that wasn't read; and the group of a summary that its faults are counted in. The names are those of include/saltighedda_fields.h.
use Rattle.std.specs.Prelude.{ℕ, suc, Bool, true, cond, ◌&&◌, not, List, [], ◌∷◌, eqb, ltb}
use Prim.Native.String.{String}
use Rattle.line.specs.Bytes.{bytes}
use Rattle.kind.specs.Kind.{number_of}
use Rattle.kind.specs.declared.Kind.{Kind}
use Rattle.names.specs.declared.Field.{Field}
use Rattle.kind.specs.declared.Kind.TheVariants.{Remark, Atom, Anisou, Cryst1, Scale, Mtrix, Model, Master, Dbref, Dbref1, Dbref2, Seqres, Seqadv, Modres, Ssbond}

-- whether a text has no LF
abbrev pub is_word : List ℕ → Bool
is_word [] = true
is_word (b ∷ t) = not (eqb b 10) && is_word t

-- the text at a place of a list, and none where there is no such place
abbrev pub text_at : ℕ → List (List ℕ) → List ℕ
text_at place [] = []
text_at ℕ.zero (t ∷ ts) = t
text_at (suc place) (t ∷ ts) = text_at place ts

-- ---- the groups, from 0 on
abbrev pub groups : List (List ℕ)
groups =
    bytes "serial number"
    ∷ bytes "atom name"
    ∷ bytes "alternate location"
    ∷ bytes "residue name"
    ∷ bytes "chain"
    ∷ bytes "residue number"
    ∷ bytes "insertion code"
    ∷ bytes "x"
    ∷ bytes "y"
    ∷ bytes "z"
    ∷ bytes "occupancy"
    ∷ bytes "B factor"
    ∷ bytes "segment"
    ∷ bytes "element"
    ∷ bytes "charge"
    ∷ bytes "U11 to U23"
    ∷ bytes "CRYST1"
    ∷ bytes "SCALE, ORIGX and MTRIX"
    ∷ bytes "SEQRES, DBREF, SEQADV and MODRES"
    ∷ bytes "other records"
    ∷ []

unfoldable pub group_name : ℕ → List ℕ
group_name group = text_at group groups

-- ---- the fields
-- a field's kind by its number and its column, what it is called, what is put there where it isn't read, and its group
pub record Called : Type 0 where
  pub kind : ℕ
  pub column : ℕ
  pub name : List ℕ
  pub default : List ℕ
  pub group : ℕ

abbrev called : Kind → ℕ → String → String → ℕ → Called
called k column name default group = record { kind = number_of k; column = column; name = bytes name; default = bytes default; group = group }

-- the charge is named by either of its columns; MODEL's number and DBREF1's end begin elsewhere in wwPDB mode
unfoldable pub fields : List Called
fields =
    called Remark 7 "remark number" "0" 19
    ∷ called Atom 6 "serial number" "0" 0
    ∷ called Atom 12 "atom name" "no text" 1
    ∷ called Atom 16 "alternate location" "nothing" 2
    ∷ called Atom 17 "residue name" "no text" 3
    ∷ called Atom 21 "chain" "a blank" 4
    ∷ called Atom 22 "residue number" "0" 5
    ∷ called Atom 26 "insertion code" "nothing" 6
    ∷ called Atom 30 "x" "0.0" 7
    ∷ called Atom 38 "y" "0.0" 8
    ∷ called Atom 46 "z" "0.0" 9
    ∷ called Atom 54 "occupancy" "1.0" 10
    ∷ called Atom 60 "B factor" "0.0" 11
    ∷ called Atom 72 "segment" "no text" 12
    ∷ called Atom 76 "element" "no text" 13
    ∷ called Atom 78 "charge" "0" 14
    ∷ called Atom 79 "charge" "0" 14
    ∷ called Anisou 6 "serial number" "0" 0
    ∷ called Anisou 12 "atom name" "no text" 1
    ∷ called Anisou 16 "alternate location" "nothing" 2
    ∷ called Anisou 17 "residue name" "no text" 3
    ∷ called Anisou 21 "chain" "a blank" 4
    ∷ called Anisou 22 "residue number" "0" 5
    ∷ called Anisou 26 "insertion code" "nothing" 6
    ∷ called Anisou 28 "U11" "0.0" 15
    ∷ called Anisou 35 "U22" "0.0" 15
    ∷ called Anisou 42 "U33" "0.0" 15
    ∷ called Anisou 49 "U12" "0.0" 15
    ∷ called Anisou 56 "U13" "0.0" 15
    ∷ called Anisou 63 "U23" "0.0" 15
    ∷ called Anisou 72 "segment" "no text" 12
    ∷ called Anisou 76 "element" "no text" 13
    ∷ called Anisou 78 "charge" "0" 14
    ∷ called Anisou 79 "charge" "0" 14
    ∷ called Cryst1 6 "a" "0.0" 16
    ∷ called Cryst1 15 "b" "0.0" 16
    ∷ called Cryst1 24 "c" "0.0" 16
    ∷ called Cryst1 33 "alpha" "0.0" 16
    ∷ called Cryst1 40 "beta" "0.0" 16
    ∷ called Cryst1 47 "gamma" "0.0" 16
    ∷ called Cryst1 66 "Z" "0" 16
    ∷ called (Scale 0) 10 "first matrix element" "0.0" 17
    ∷ called (Scale 0) 20 "second matrix element" "0.0" 17
    ∷ called (Scale 0) 30 "third matrix element" "0.0" 17
    ∷ called (Scale 0) 45 "translation" "0.0" 17
    ∷ called (Mtrix 0) 7 "serial number" "0" 17
    ∷ called (Mtrix 0) 10 "first matrix element" "0.0" 17
    ∷ called (Mtrix 0) 20 "second matrix element" "0.0" 17
    ∷ called (Mtrix 0) 30 "third matrix element" "0.0" 17
    ∷ called (Mtrix 0) 45 "translation" "0.0" 17
    ∷ called Model 6 "model number" "0" 19
    ∷ called Model 10 "model number" "0" 19
    ∷ called Master 10 "REMARK count" "0" 19
    ∷ called Master 15 "zero" "0" 19
    ∷ called Master 20 "HET count" "0" 19
    ∷ called Master 25 "HELIX count" "0" 19
    ∷ called Master 30 "SHEET count" "0" 19
    ∷ called Master 35 "TURN count" "0" 19
    ∷ called Master 40 "SITE count" "0" 19
    ∷ called Master 45 "ORIGX, SCALE and MTRIX count" "0" 19
    ∷ called Master 50 "ATOM and HETATM count" "0" 19
    ∷ called Master 55 "TER count" "0" 19
    ∷ called Master 60 "CONECT count" "0" 19
    ∷ called Master 65 "SEQRES count" "0" 19
    ∷ called Dbref 7 "entry code" "no text" 18
    ∷ called Dbref 12 "chain" "no text" 18
    ∷ called Dbref 14 "first residue number" "0" 18
    ∷ called Dbref 18 "first insertion code" "a blank" 18
    ∷ called Dbref 20 "last residue number" "0" 18
    ∷ called Dbref 24 "last insertion code" "a blank" 18
    ∷ called Dbref 26 "database" "no text" 18
    ∷ called Dbref 33 "accession code" "no text" 18
    ∷ called Dbref 42 "database entry name" "no text" 18
    ∷ called Dbref 55 "first database number" "0" 18
    ∷ called Dbref 60 "first database insertion code" "a blank" 18
    ∷ called Dbref 62 "last database number" "0" 18
    ∷ called Dbref 67 "last database insertion code" "a blank" 18
    ∷ called Dbref1 7 "entry code" "no text" 18
    ∷ called Dbref1 12 "chain" "no text" 18
    ∷ called Dbref1 14 "first residue number" "0" 18
    ∷ called Dbref1 18 "first insertion code" "a blank" 18
    ∷ called Dbref1 20 "last residue number" "0" 18
    ∷ called Dbref1 21 "last residue number" "0" 18
    ∷ called Dbref1 24 "last insertion code" "a blank" 18
    ∷ called Dbref1 26 "database" "no text" 18
    ∷ called Dbref1 47 "database entry name" "no text" 18
    ∷ called Dbref2 7 "entry code" "no text" 18
    ∷ called Dbref2 12 "chain" "no text" 18
    ∷ called Dbref2 18 "accession code" "no text" 18
    ∷ called Dbref2 45 "first database number" "0" 18
    ∷ called Dbref2 57 "last database number" "0" 18
    ∷ called Seqres 7 "serial number" "0" 18
    ∷ called Seqres 11 "chain" "a blank" 18
    ∷ called Seqres 13 "number of residues" "0" 18
    ∷ called Seqadv 7 "entry code" "no text" 18
    ∷ called Seqadv 12 "residue name" "no text" 18
    ∷ called Seqadv 16 "chain" "no text" 18
    ∷ called Seqadv 18 "residue number" "0" 18
    ∷ called Seqadv 22 "insertion code" "nothing" 18
    ∷ called Seqadv 24 "database" "no text" 18
    ∷ called Seqadv 29 "accession code" "no text" 18
    ∷ called Seqadv 39 "database residue name" "no text" 18
    ∷ called Seqadv 43 "database residue number" "0" 18
    ∷ called Modres 7 "entry code" "no text" 18
    ∷ called Modres 12 "residue name" "no text" 18
    ∷ called Modres 16 "chain" "a blank" 18
    ∷ called Modres 18 "residue number" "0" 18
    ∷ called Modres 22 "insertion code" "nothing" 18
    ∷ called Modres 24 "standard residue name" "no text" 18
    ∷ called Ssbond 11 "first residue name" "no text" 19
    ∷ called Ssbond 15 "first chain" "a blank" 19
    ∷ called Ssbond 17 "first residue number" "0" 19
    ∷ called Ssbond 21 "first insertion code" "nothing" 19
    ∷ called Ssbond 25 "second residue name" "no text" 19
    ∷ called Ssbond 29 "second chain" "a blank" 19
    ∷ called Ssbond 31 "second residue number" "0" 19
    ∷ called Ssbond 35 "second insertion code" "nothing" 19
    ∷ called Ssbond 59 "first symmetry operator" "no text" 19
    ∷ called Ssbond 66 "second symmetry operator" "no text" 19
    ∷ called Ssbond 73 "bond length" "0.0" 19
    ∷ []

-- a field as the code has it
abbrev pub called_by : Field → Called
called_by f = record { kind = number_of f.0; column = f.1; name = f.2.now; default = f.3.now; group = f.4 }

-- whether a field is of a family at a column
abbrev pub is_of : ℕ → ℕ → Field → Bool
is_of family column f = eqb (number_of f.0) family && eqb f.1 column

-- any other column
abbrev pub other : Called
other = record { kind = 0; column = 0; name = bytes "field"; default = bytes "nothing"; group = 19 }

-- kinds that have the same fields go by the first of them: HETATM by ATOM, SCALE and ORIGX by SCALE1, MTRIX by MTRIX1
abbrev pub family_of : ℕ → ℕ
family_of number = cond (eqb number 4) 3 (cond (ltb number 7) number (cond (ltb number 13) 7 (cond (ltb number 16) 13 number)))

-- the field of a family at a column
abbrev pub called_in : ℕ → ℕ → List Called → Called
called_in family column [] = other
called_in family column (f ∷ fs) = cond (eqb f.kind family && eqb f.column column) f (called_in family column fs)

abbrev pub called_at : Kind → ℕ → Called
called_at k column = called_in (family_of (number_of k)) column fields

unfoldable pub name_of : Kind → ℕ → List ℕ
name_of k column = (called_at k column).name

unfoldable pub default_text : Kind → ℕ → List ℕ
default_text k column = (called_at k column).default

unfoldable pub group_of : Kind → ℕ → ℕ
group_of k column = (called_at k column).group
