-- "Over 6 bytes: the first six decide. All else is EMPTY. Atoms only keeps ATOM, HETATM, MODEL, ENDMDL, TER, END and makes the rest EMPTY. From 3
-- to 6 bytes: TER or END by the first three, else EMPTY. Under 3: EMPTY." In wwPDB mode "a six-byte ENDMDL ends a model".
use Rattle.std.specs.Prelude.{ℕ, ◌+◌, Bool, true, false, cond, ◌&&◌, List, [], ◌∷◌, length, take, ltb, eqb}
use Prim.Native.String.{String}
use Rattle.line.specs.Bytes.{bytes}
use Rattle.line.specs.declared.options.Mode.{Mode}
use Rattle.line.specs.declared.options.Mode.TheVariants.{Crate, WwPdb}
use Rattle.kind.specs.declared.Kind.{Kind}
use Rattle.kind.specs.declared.Kind.TheVariants.{Empty, Header, Remark, Atom, Hetatm, Anisou, Cryst1, Scale, Origx, Mtrix, Model, Master, Dbref, Dbref1, Dbref2, Seqres, Seqadv, Modres, Ssbond, Endmdl, Ter, End}

-- whether two texts are the same bytes
abbrev pub same : List ℕ → List ℕ → Bool
same [] [] = true
same [] (b ∷ t) = false
same (a ∷ s) [] = false
same (a ∷ s) (b ∷ t) = eqb a b && same s t

-- a name, the kind it gives, and whether atoms only keeps it
pub record Named : Type 0 where
  pub name : List ℕ
  pub kind : Kind
  pub is_kept : Bool

abbrev named : String → Kind → Named
named s k = record { name = bytes s; kind = k; is_kept = false }

abbrev kept : String → Kind → Named
kept s k = record { name = bytes s; kind = k; is_kept = true }

-- in the order of the kinds' numbers, from 0 on
abbrev pub names : List Named
names =
    kept "EMPTY " Empty ∷ named "HEADER" Header ∷ named "REMARK" Remark ∷ kept "ATOM  " Atom ∷ kept "HETATM" Hetatm ∷ named "ANISOU" Anisou
    ∷ named "CRYST1" Cryst1 ∷ named "SCALE1" (Scale 0) ∷ named "SCALE2" (Scale 1) ∷ named "SCALE3" (Scale 2)
    ∷ named "ORIGX1" (Origx 0) ∷ named "ORIGX2" (Origx 1) ∷ named "ORIGX3" (Origx 2)
    ∷ named "MTRIX1" (Mtrix 0) ∷ named "MTRIX2" (Mtrix 1) ∷ named "MTRIX3" (Mtrix 2) ∷ kept "MODEL " Model ∷ named "MASTER" Master
    ∷ named "DBREF " Dbref ∷ named "DBREF1" Dbref1 ∷ named "DBREF2" Dbref2 ∷ named "SEQRES" Seqres ∷ named "SEQADV" Seqadv
    ∷ named "MODRES" Modres ∷ named "SSBOND" Ssbond ∷ kept "ENDMDL" Endmdl ∷ kept "TER   " Ter ∷ kept "END   " End ∷ []

-- no kind's number, and no name's place
abbrev pub no_kind : ℕ
no_kind = 255

-- rows are 0, 1 and 2, numbered from their family's first on; any other is no kind of a line
unfoldable pub row_place : ℕ → ℕ → ℕ
row_place first row = cond (eqb row 0) first (cond (eqb row 1) (first + 1) (cond (eqb row 2) (first + 2) no_kind))

-- a kind by its number, which is its name's place
abbrev pub number_of : Kind → ℕ
number_of Empty = 0
number_of Header = 1
number_of Remark = 2
number_of Atom = 3
number_of Hetatm = 4
number_of Anisou = 5
number_of Cryst1 = 6
number_of (Scale row) = row_place 7 row
number_of (Origx row) = row_place 10 row
number_of (Mtrix row) = row_place 13 row
number_of Model = 16
number_of Master = 17
number_of Dbref = 18
number_of Dbref1 = 19
number_of Dbref2 = 20
number_of Seqres = 21
number_of Seqadv = 22
number_of Modres = 23
number_of Ssbond = 24
number_of Endmdl = 25
number_of Ter = 26
number_of End = 27

abbrev pub kept_names : List Named → List Named
kept_names [] = []
kept_names (n ∷ t) = cond n.is_kept (n ∷ kept_names t) (kept_names t)

-- the names that count, under atoms only or not
abbrev pub names_by : Bool → List Named
names_by true = kept_names names
names_by false = names

abbrev pub short_names : List Named
short_names = kept "TER" Ter ∷ kept "END" End ∷ []

-- the kind of the first name that a text is
abbrev pub kind_by : List ℕ → List Named → Kind
kind_by text [] = Empty
kind_by text (n ∷ t) = cond (same text n.name) n.kind (kind_by text t)

-- whether a line is the six bytes that end a model
abbrev pub ends_model : Mode → List ℕ → Bool
ends_model Crate l = false
ends_model WwPdb l = same l (bytes "ENDMDL")

-- the kind of a line, under atoms only or not, in a mode
unfoldable pub kind_of : Bool → Mode → List ℕ → Kind
kind_of atoms mode l =
    cond (ltb 6 (length l))
    (kind_by (take 6 l) (names_by atoms))
    (cond (ends_model mode l) Endmdl (cond (ltb 2 (length l)) (kind_by (take 3 l) short_names) Empty))
