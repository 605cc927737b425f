-- What a definition alone decides is believed by every theorem about it, so each such choice has a case here.
--     defaults    "Defaults: 0 for U, I and a faulted charge, 0.0 for R but 1.0 at 54..60, empty text, one blank for C. An empty text has place
--                 0, length 0." A line of blanks or a cut one with its whole record, and the sort of each number field in its faults.
--     readings    which triples are read, when a residue of the database is, what is trimmed, and how many digits stood after the point
use Rattle.std.specs.Prelude.{ℕ, true, false, List, [], ◌∷◌, ◌++◌, map, pos, Float, Option, Some, None}
use Rattle.line.specs.Bytes.{bytes}
use Rattle.atom.specs.declared.record.Basics.{Basics}
use Rattle.lexitem.specs.declared.item.LexItem.TheVariants as item
use Rattle.dbref.specs.declared.record.Segment.{Segment}
use Rattle.seqadv.specs.declared.record.Target.{Target}
use Rattle.ssbond.specs.declared.record.Bond.{Bond}
use Rattle.line.specs.declared.options.Mode.{Mode}
use Rattle.line.specs.declared.options.Mode.TheVariants.{Crate, WwPdb}
use Rattle.line.specs.declared.fault.Sort.TheVariants.{Unsigned as U, Signed as I, Real as R}
use Rattle.line.specs.declared.text.Character.{Character}
use Rattle.line.specs.declared.text.Character.TheVariants.{At, Unreached, Absent}
use Rattle.line.specs.declared.text.Text.{Text}
use Rattle.transformation.specs.declared.record.RowPlaces.{RowPlaces}
use Rattle.transformation.specs.declared.record.Transformation.{Transformation}
use Rattle.promises.specs.Edges.{Claim, Case, Told, fault, wrong, on, on_standard, on_unknown, filled, real}
use Rattle.promises.specs.Edges.Claim.{is, field, faults}

-- 0.0 and 1.0
abbrev zero : Float
zero = real 0

abbrev one : Float
one = real 0x3FF0000000000000

abbrev none : Text
none = record { place = 0; length = 0 }

-- what ATOM, HETATM and ANISOU share, by the chain's character
abbrev basics : Character → Basics
basics chain = record {
  serial = 0;
  name = none;
  alternate = Absent;
  residue = none;
  chain = chain;
  number = pos 0;
  insertion = Absent;
  segment = none;
  element = none;
  charge = pos 0;
}

abbrev atom : Character → Claim
atom chain = is (item.Atom (record {
  hetero = false;
  basics = basics chain;
  position = record { x = zero; y = zero; z = zero };
  occupancy = one;
  bfactor = zero;
  places = record { position = record { x = 0; y = 0; z = 0 }; occupancy = 0; bfactor = 0 };
}))

abbrev atom_faults : Claim
atom_faults =
    faults (wrong R 30 8 ∷ wrong R 38 8 ∷ wrong R 46 8 ∷ wrong R 54 6 ∷ wrong R 60 6 ∷ wrong U 6 5 ∷ wrong I 22 4 ∷ [])

abbrev anisou : Character → Claim
anisou chain = is (item.Anisou (record {
  basics = basics chain;
  factors = record { u11 = zero; u22 = zero; u33 = zero; u12 = zero; u13 = zero; u23 = zero };
}))

abbrev crystal : Claim
crystal = is (item.Crystal (record {
  cell = record { a = zero; b = zero; c = zero; alpha = zero; beta = zero; gamma = zero };
  places = record { a = 0; b = 0; c = 0; alpha = 0; beta = 0; gamma = 0 };
  spacegroup = none;
  z = 1;
}))

abbrev row : Transformation
row = record { a = zero; b = zero; c = zero; d = zero }

abbrev no_places : RowPlaces
no_places = record { a = 0; b = 0; c = 0; d = 0 }

abbrev row_faults : List Told
row_faults = wrong R 10 10 ∷ wrong R 20 10 ∷ wrong R 30 10 ∷ wrong R 45 10 ∷ []

abbrev master : Claim
master = is (item.Master (record {
  remark = 0;
  empty = 0;
  het = 0;
  helix = 0;
  sheet = 0;
  turn = 0;
  site = 0;
  xform = 0;
  coord = 0;
  ter = 0;
  connect = 0;
  seq = 0;
}))

abbrev segment : Character → Character → Segment
segment opening closing = record { begin = pos 0; opening = opening; end = pos 0; closing = closing }

-- a DBREF1 that ends with its name
abbrev dbref1 : Mode → Claim
dbref1 mode = is (item.Dbref1 (record {
  code = none;
  chain = none;
  segment = segment Unreached Unreached;
  database = none;
  name = none;
  mode = mode;
}))

-- its faults, by where its segment's end should be
abbrev dbref1_faults : ℕ → ℕ → Claim
dbref1_faults place length =
    faults
    (fault 1 7 4
    ∷ fault 1 12 1
    ∷ fault 1 14 4
    ∷ fault 1 18 1
    ∷ fault 1 place length
    ∷ fault 1 24 1
    ∷ fault 1 26 6
    ∷ fault 1 47 20
    ∷ [])

abbrev seqadv : Option Target → Claim
seqadv target = is (item.Seqadv (record {
  code = none;
  residue = none;
  chain = none;
  number = pos 0;
  insertion = Absent;
  database = none;
  accession = none;
  target = target;
  comment = none;
}))

abbrev ssbond : Option Bond → Claim
ssbond tail = is (item.SSBond (record {
  first = record { name = none; chain = At 15; number = pos 0; insertion = Absent };
  second = record { name = none; chain = At 29; number = pos 0; insertion = Absent };
  tail = tail;
}))

abbrev pub defaults : List Case
defaults =
    on (filled 80 (bytes "ATOM  "))
    (atom (At 21) ∷ atom_faults ∷ [])
    ∷ on (bytes "ATOM   ") (atom Unreached ∷ [])
    ∷ on (filled 80 (bytes "HETATM")) (field item.Atom (λ a. a.hetero) true ∷ atom_faults ∷ [])
    ∷ on (filled 80 (bytes "ANISOU"))
    (anisou (At 21)
    ∷ faults (wrong I 28 7 ∷ wrong I 35 7 ∷ wrong I 42 7 ∷ wrong I 49 7 ∷ wrong I 56 7 ∷ wrong I 63 7 ∷ wrong U 6 5 ∷ wrong I 22 4 ∷ [])
    ∷ [])
    ∷ on (bytes "ANISOU ") (anisou Unreached ∷ [])
    ∷ on (filled 55 (bytes "CRYST1"))
    (crystal ∷ faults (wrong R 6 9 ∷ wrong R 15 9 ∷ wrong R 24 9 ∷ wrong R 33 7 ∷ wrong R 40 7 ∷ wrong R 47 7 ∷ []) ∷ [])
    ∷ on (filled 55 (bytes "SCALE1"))
    (is (item.Scale (record { row = 0; values = row; places = no_places })) ∷ faults row_faults ∷ [])
    ∷ on (filled 55 (bytes "ORIGX2"))
    (is (item.OrigX (record { row = 1; values = row; places = no_places })) ∷ faults row_faults ∷ [])
    ∷ on (bytes "ORIGX2 ")
    (is (item.OrigX (record { row = 1; values = row; places = no_places }))
    ∷ faults (fault 1 10 10 ∷ fault 1 20 10 ∷ fault 1 30 10 ∷ fault 1 45 10 ∷ [])
    ∷ [])
    ∷ on (filled 59 (bytes "MTRIX3"))
    (is (item.MtriX (record { row = 2; serial = 0; values = row; places = no_places; given = false }))
    ∷ faults (wrong U 7 3 ∷ row_faults)
    ∷ [])
    ∷ on (filled 59 (bytes "MTRIX3") ++ bytes "1") (field item.MtriX (λ m. m.given) true ∷ [])
    ∷ on (filled 14 (bytes "MODEL ")) (is (item.Model (record { number = 0; mode = Crate })) ∷ faults (wrong U 6 8 ∷ []) ∷ [])
    ∷ on_standard (filled 14 (bytes "MODEL ")) (is (item.Model (record { number = 0; mode = WwPdb })) ∷ faults (wrong U 10 4 ∷ []) ∷ [])
    ∷ on (filled 70 (bytes "MASTER"))
    (master
    ∷ faults (map (λ column. wrong U column 5) (10 ∷ 15 ∷ 20 ∷ 25 ∷ 30 ∷ 35 ∷ 40 ∷ 45 ∷ 50 ∷ 55 ∷ 60 ∷ 65 ∷ []))
    ∷ [])
    ∷ on (bytes "SEQRES ")
    (is (item.Seqres (record { serial = 0; chain = Unreached; residues = 0; triples = 0 }))
    ∷ faults (fault 1 7 3 ∷ fault 1 11 1 ∷ fault 1 13 4 ∷ [])
    ∷ [])
    ∷ on (filled 17 (bytes "SEQRES")) (faults (wrong U 7 3 ∷ wrong U 13 4 ∷ []) ∷ [])
    ∷ on (filled 68 (bytes "DBREF "))
    (is (item.Dbref (record {
      code = none;
      chain = none;
      segment = segment (At 18) (At 24);
      database = none;
      accession = none;
      name = none;
      target = segment (At 60) (At 67);
    }))
    ∷ faults (wrong I 14 4 ∷ wrong I 20 4 ∷ wrong I 55 5 ∷ wrong I 62 5 ∷ [])
    ∷ [])
    ∷ on (bytes "DBREF1 ") (dbref1 Crate ∷ dbref1_faults 21 3 ∷ [])
    ∷ on_standard (bytes "DBREF1 ") (dbref1 WwPdb ∷ dbref1_faults 20 4 ∷ [])
    ∷ on (filled 67 (bytes "DBREF1")) (faults (wrong I 14 4 ∷ wrong I 21 3 ∷ []) ∷ [])
    ∷ on_standard (filled 67 (bytes "DBREF1")) (faults (wrong I 14 4 ∷ wrong I 20 4 ∷ []) ∷ [])
    ∷ on (filled 67 (bytes "DBREF2"))
    (is (item.Dbref2 (record { code = none; chain = none; accession = none; begin = pos 0; end = pos 0 }))
    ∷ faults (wrong I 45 10 ∷ wrong I 57 10 ∷ [])
    ∷ [])
    ∷ on (filled 49 (bytes "SEQADV")) (seqadv None ∷ faults (wrong I 18 4 ∷ []) ∷ [])
    ∷ on (filled 49 (filled 39 (bytes "SEQADV") ++ bytes "ALA"))
    (seqadv (Some (record { name = record { place = 39; length = 3 }; number = pos 0 })) ∷ faults (wrong I 18 4 ∷ wrong I 43 5 ∷ []) ∷ [])
    ∷ on (filled 29 (bytes "MODRES"))
    (is (item.Modres (record {
      code = none;
      residue = none;
      chain = At 16;
      number = pos 0;
      insertion = Absent;
      standard = none;
      comment = none;
    }))
    ∷ faults (wrong I 18 4 ∷ [])
    ∷ [])
    ∷ on (filled 36 (bytes "SSBOND")) (ssbond None ∷ faults (wrong I 17 4 ∷ wrong I 31 4 ∷ []) ∷ [])
    ∷ on (filled 78 (bytes "SSBOND")) (ssbond (Some (record { first = none; second = none; length = zero; places = 0 })) ∷ faults (wrong I 17 4 ∷ wrong I 31 4 ∷ wrong R 73 5 ∷ []) ∷ [])
    ∷ on (bytes "REMARK 999 ") (is (item.Remark (record { number = 999; text = none })) ∷ faults [] ∷ [])
    ∷ on (filled 10 (bytes "REMARK")) (is (item.Remark (record { number = 0; text = none })) ∷ faults (wrong U 7 3 ∷ []) ∷ [])
    -- a number that isn't in the table, and one that is faulted, which is looked up as 0
    ∷ on_unknown (bytes "REMARK 999 ") (is (item.Remark (record { number = 999; text = none })) ∷ faults (fault 5 7 3 ∷ []) ∷ [])
    ∷ on_unknown (bytes "REMARK  ") (is (item.Remark (record { number = 0; text = none })) ∷ faults (fault 1 7 3 ∷ fault 5 7 3 ∷ []) ∷ [])
    ∷ on (filled 66 (bytes "HEADER"))
    (is (item.Header (record {
      classification = record { place = 10; length = 40 };
      date = record { place = 50; length = 9 };
      code = record { place = 62; length = 4 };
    }))
    ∷ faults []
    ∷ [])
    ∷ []

-- ---- the readings
-- a SEQRES whose triples begin at 19
abbrev triples : List ℕ → ℕ → Case
triples written n = on (bytes "SEQRES   1 A   13  " ++ written) (field item.Seqres (λ s. s.triples) n ∷ faults [] ∷ [])

-- thirteen of them, the line ending with the last; some have blanks
abbrev thirteen : List ℕ
thirteen = bytes "ALA  DA   U C   CYS GLN GLU GLY HIS ILE LEU LYS MET"

-- a SEQADV that is blank but for one byte
abbrev only : ℕ → ℕ → List ℕ
only column byte = filled 49 (filled column (bytes "SEQADV") ++ byte ∷ [])

abbrev pub readings : List Case
readings =
    -- "triples start at 19, 23, .. 67, while start+3 is at most min(len, 71), and stop at the first three blanks": a fourteenth isn't read, and
    -- what stands between them, at 22, 26, .., doesn't count
    triples thirteen 13
    ∷ triples (thirteen ++ bytes " PHE") 13
    ∷ triples (bytes "ALA-   -ASN-ASP-CYS-GLN-GLU-GLY-HIS-ILE-LEU-LYS-MET") 1
    -- "if 39..48 isn't all blanks, T 39..42 and I 43..48": column 42 is of neither field, and 38 and 48 aren't among them
    ∷ on (only 42 88) (seqadv (Some (record { name = none; number = pos 0 })) ∷ faults (wrong I 18 4 ∷ wrong I 43 5 ∷ []) ∷ [])
    ∷ on (only 47 53) (seqadv (Some (record { name = none; number = pos 5 })) ∷ faults (wrong I 18 4 ∷ []) ∷ [])
    ∷ on (only 38 88) (seqadv None ∷ faults (wrong I 18 4 ∷ []) ∷ [])
    ∷ on (only 48 88) (seqadv None ∷ faults (wrong I 18 4 ∷ []) ∷ [])
    -- "text from 11 with its end trimmed", and T, which is trimmed at both ends
    ∷ on (bytes "REMARK   2   TEXT  ") (field item.Remark (λ r. r.text) (record { place = 11; length = 6 }) ∷ faults [] ∷ [])
    ∷ on (filled 29 (bytes "MODRES") ++ bytes "  TEXT  ") (field item.Modres (λ m. m.comment) (record { place = 31; length = 4 }) ∷ [])
    -- trim takes off bytes 9 to 13 and 32, and not 8 or 14
    ∷ on (bytes "MODEL " ++ 9 ∷ 10 ∷ 11 ∷ 53 ∷ 12 ∷ 13 ∷ 32 ∷ []) (field item.Model (λ m. m.number) 5 ∷ faults [] ∷ [])
    ∷ on (bytes "MODEL " ++ 8 ∷ 53 ∷ []) (field item.Model (λ m. m.number) 0 ∷ faults (wrong U 6 2 ∷ []) ∷ [])
    ∷ on (bytes "MODEL " ++ 53 ∷ 14 ∷ []) (field item.Model (λ m. m.number) 0 ∷ faults (wrong U 6 2 ∷ []) ∷ [])
    -- "how many digits stood after the point, 0 to 9, and 0 for a default", "with trailing zeros included"
    ∷ on (filled 80 (bytes "ATOM      1  N   ALA A   1       1.500     .50      5.        20.0"))
    (field item.Atom (λ a. a.places) (record { position = record { x = 3; y = 2; z = 0 }; occupancy = 0; bfactor = 1 })
    ∷ faults (wrong R 54 6 ∷ [])
    ∷ [])
    ∷ on (bytes "SCALE1    .100000000     -1.50        +5           .000")
    (field item.Scale (λ s. s.places) (record { a = 9; b = 2; c = 0; d = 3 }) ∷ faults [] ∷ [])
    ∷ []
