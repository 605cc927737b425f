-- "P1 to P12 are one list of cases with a single theorem about it": a case is a line with claims of what is answered, and each claim is found in
-- the answer where it looks. A real is claimed by its bits, as a listing shows it.
use Rattle.std.specs.Prelude.{ℕ, ◌-◌, ◌≡◌, Bool, true, false, List, [], ◌∷◌, ◌++◌, map, length, replicate, pos, neg_ℤ, Float, Ok}
use Prim.Native.String.{String}
use Rattle.std.specs.Float.{binary64}
use Rattle.std.specs.Float.Ieee.{of_bits}
use Rattle.line.specs.Bytes.{bytes}
use Rattle.line.specs.Faults.{number_of}
use Rattle.lexitem.specs.Fault.{told, faults_in}
use Rattle.lexitem.specs.declared.answer.Answer.{Answer}
use Rattle.line.specs.Options.{plain}
use Rattle.line.specs.declared.options.Mode.{Mode}
use Rattle.line.specs.declared.options.Mode.TheVariants.{Crate, WwPdb}
use Rattle.line.specs.declared.options.Options.{Options}
use Rattle.line.specs.declared.fault.Fault.{Fault}
use Rattle.line.specs.declared.fault.FaultKind.{FaultKind}
use Rattle.line.specs.declared.fault.FaultKind.TheVariants.{Short, Wrong, NoDigit, NoSign, Unknown}
use Rattle.line.specs.declared.fault.Sort.{Sort}
use Rattle.line.specs.declared.fault.Sort.TheVariants.{Unsigned as U, Signed as I, Real as R}
use Rattle.lexitem.specs.declared.item.LexItem.{LexItem}
use Rattle.lexitem.specs.declared.item.LexItem.TheVariants as item
use Rattle.lexer.specs.Lexed.{lexed}
use Rattle.promises.specs.Refusing.{numbers_of}

-- what 01 tells of a fault: its number, place and length, and "for 2, each fault says which sort of number the columns should have held"
abbrev pub Told : Type 0
Told = ℕ × ℕ × ℕ × List Sort

-- a fault that names no sort, by its number; and a fault 2, whose sort has 01's letter: "U unsigned, I signed, R real"
abbrev pub fault : ℕ → ℕ → ℕ → Told
fault number place length = (number, place, length, [])

abbrev pub wrong : Sort → ℕ → ℕ → Told
wrong sort place length = (2, place, length, sort ∷ [])

-- the sort that a fault names, if it names one
abbrev pub sort_of : FaultKind → List Sort
sort_of Short = []
sort_of (Wrong sort) = sort ∷ []
sort_of NoDigit = []
sort_of NoSign = []
sort_of Unknown = []

abbrev pub told_by : Fault → Told
told_by f = (number_of f.kind, f.place, f.length, sort_of f.kind)

-- what is claimed of an answer
pub data Claim : Type 1 where
  -- the record
  is : LexItem → Claim
  -- a field's value, in a record of a kind
  field : {A B : Type 0} → (A → LexItem) → (A → B) → B → Claim
  -- the faults, or how many there are
  faults : List Told → Claim
  count : ℕ → Claim
  -- a refusal by its number, place and length
  refused : ℕ → ℕ → ℕ → Claim

-- the answer has at a claim's place what the claim says
abbrev pub Found : Answer → Claim → Type 0
Found a (is x) = a.outcome ≡ Ok x
Found a (field {A} make get value) = (x : A) × (a.outcome ≡ Ok (make x)) × (get x ≡ value)
Found a (faults fs) = map told_by (faults_in (told a.faults)) ≡ fs
Found a (count n) = a.faults.count ≡ n
Found a (refused number place length) = numbers_of a.outcome ≡ (number, place, length)

abbrev pub ClaimsFound : Answer → List Claim → Type 0
ClaimsFound a [] = Unit {0}
ClaimsFound a (claim ∷ rest) = Found a claim × ClaimsFound a rest

-- a line with its options and the lent remark table, and what is claimed of the answer
pub record Case : Type 1 where
  pub line : List ℕ
  pub options : Options
  pub remarks : List ℕ
  pub claims : List Claim

abbrev pub answer_to : Case → Answer
answer_to c = lexed (record { line = c.line; number = 0; options = c.options; remarks = c.remarks })

-- every claim of every case is found
abbrev pub CasesFound : List Case → Type 0
CasesFound [] = Unit {0}
CasesFound (c ∷ rest) = ClaimsFound (answer_to c) c.claims × CasesFound rest

-- every remark number valid
abbrev pub reading : Options → List ℕ → List Claim → Case
reading options line claims =
    record { line = line; options = options; remarks = replicate 1000 1; claims = claims }

-- all kinds, not loose, in crate mode
abbrev pub on : List ℕ → List Claim → Case
on = reading plain

-- the same, but loose
abbrev pub on_loose : List ℕ → List Claim → Case
on_loose = reading (record { atoms = false; loose = true; mode = Crate; exponents = false })

-- the same, but in wwPDB mode
abbrev pub on_standard : List ℕ → List Claim → Case
on_standard = reading (record { atoms = false; loose = false; mode = WwPdb; exponents = false })

-- the same, but atoms only, in a mode
abbrev pub on_atoms : Mode → List ℕ → List Claim → Case
on_atoms mode = reading (record { atoms = true; loose = false; mode = mode; exponents = false })

-- the same, but no remark number valid
abbrev pub on_unknown : List ℕ → List Claim → Case
on_unknown line claims =
    record { line = line; options = plain; remarks = replicate 1000 0; claims = claims }

-- the same, but with exponents
abbrev pub on_taking : List ℕ → List Claim → Case
on_taking = reading (record { atoms = false; loose = false; mode = Crate; exponents = true })

-- a case with the option for exponents on or off
abbrev pub case_with : Bool → Case → Case
case_with on c = record {
  line = c.line;
  options = record { atoms = c.options.atoms; loose = c.options.loose; mode = c.options.mode; exponents = on };
  remarks = c.remarks;
  claims = c.claims;
}

abbrev pub cases_with : Bool → List Case → List Case
cases_with on [] = []
cases_with on (c ∷ rest) = case_with on c ∷ cases_with on rest

-- a line filled with blanks up to a length
abbrev pub filled : ℕ → List ℕ → List ℕ
filled n line = line ++ replicate (n - length line) 32

-- the double that has these bits
abbrev pub real : ℕ → Float
real n = of_bits binary64 n

-- ---- the lines
-- 78 columns of an ATOM, its charge to follow
abbrev charged : String → List ℕ
charged s = bytes "ATOM      1  N   ALA A   1      11.104   6.134  -6.504  1.00  0.00           N" ++ bytes s

-- the 54 columns of a CRYST1's cell, and its space group behind them
abbrev cell : List ℕ
cell = bytes "CRYST1   52.000   58.600   61.900  90.00  90.00  90.00"

abbrev crystal : List ℕ
crystal = cell ++ bytes " P 21 21 21"

-- a REMARK whose text of n bytes has five blanks behind it
abbrev remark : ℕ → List ℕ
remark n = bytes "REMARK   2 " ++ replicate n 88 ++ replicate 5 32

-- a DBREF1 whose end is 1234
abbrev reference : List ℕ
reference = bytes "DBREF1 2J83 A   61  1234  UNIMES               UPI000148A153"

abbrev pub edges : List Case
edges =
    -- P1 empty is EMPTY
    on [] (is item.Empty ∷ [])
    -- P2 `TE` EMPTY, `TER` TER
    ∷ on (bytes "TE") (is item.Empty ∷ [])
    ∷ on (bytes "TER") (is item.Ter ∷ [])
    -- P3 `ENDMDL` alone is END; with one blank more, ENDMDL; in wwPDB mode it is ENDMDL either way, and so under atoms only
    ∷ on (bytes "ENDMDL") (is item.End ∷ [])
    ∷ on (bytes "ENDMDL ") (is item.EndModel ∷ [])
    ∷ on_standard (bytes "ENDMDL") (is item.EndModel ∷ [])
    ∷ on_standard (bytes "ENDMDL ") (is item.EndModel ∷ [])
    ∷ on_atoms Crate (bytes "ENDMDL") (is item.End ∷ [])
    ∷ on_atoms WwPdb (bytes "ENDMDL") (is item.EndModel ∷ [])
    -- P4 `MODEL ` is EMPTY, in either mode
    ∷ on (bytes "MODEL ") (is item.Empty ∷ [])
    ∷ on_standard (bytes "MODEL ") (is item.Empty ∷ [])
    -- P5 MODEL 18446744073709551615 is read; ..616 gives 0 and fault 2
    ∷ on (bytes "MODEL 18446744073709551615") (field item.Model (λ m. m.number) 18446744073709551615 ∷ faults [] ∷ [])
    ∷ on (bytes "MODEL 18446744073709551616") (field item.Model (λ m. m.number) 0 ∷ faults (wrong U 6 20 ∷ []) ∷ [])
    -- in wwPDB mode the serial is in 10..14, and a line shorter than 14 has fault 1 and number 0
    ∷ on_standard (bytes "MODEL     123") (field item.Model (λ m. m.number) 0 ∷ faults (fault 1 10 4 ∷ []) ∷ [])
    ∷ on_standard (bytes "MODEL     1234") (field item.Model (λ m. m.number) 1234 ∷ faults [] ∷ [])
    ∷ on_standard (bytes "MODEL 9999123456789") (field item.Model (λ m. m.number) 1234 ∷ faults [] ∷ [])
    -- P6 `+5` is U 5; `-0` is fault 2 as U and 0 as I
    ∷ on (bytes "MODEL +5") (field item.Model (λ m. m.number) 5 ∷ faults [] ∷ [])
    ∷ on (bytes "MODEL -0") (field item.Model (λ m. m.number) 0 ∷ faults (wrong U 6 2 ∷ []) ∷ [])
    ∷ on (bytes "MODRES 1ABC MSE A   -0  MET  SELENOMETHIONINE") (field item.Modres (λ m. m.number) (pos 0) ∷ faults [] ∷ [])
    -- P7 R `5.` and `.5` are read, `.` isn't
    ∷ on (bytes "SCALE1            5.        .5         .             -0")
    (field item.Scale (λ s. s.values.a) (real 0x4014000000000000)
    ∷ field item.Scale (λ s. s.values.b) (real 0x3FE0000000000000)
    ∷ field item.Scale (λ s. s.values.c) (real 0)
    ∷ field item.Scale (λ s. s.values.d) (real 0x8000000000000000)
    ∷ faults (wrong R 30 10 ∷ [])
    ∷ [])
    -- P8 charge `2-` is -2; blank then `2` is fault 3; `2` then blank is fault 4
    ∷ on (charged "2-") (field item.Atom (λ a. a.basics.charge) (neg_ℤ (pos 2)) ∷ faults [] ∷ [])
    ∷ on (charged " 2") (field item.Atom (λ a. a.basics.charge) (pos 0) ∷ faults (fault 3 78 1 ∷ []) ∷ [])
    ∷ on (charged "2 ") (field item.Atom (λ a. a.basics.charge) (pos 0) ∷ faults (fault 4 79 1 ∷ []) ∷ [])
    -- P9 CRYST1 of 54 is refusal 6; of 66, Z is 1; of 67 with a blank there, 0 and a fault
    ∷ on cell (refused 6 54 1 ∷ [])
    ∷ on (filled 66 crystal) (field item.Crystal (λ c. c.z) 1 ∷ faults [] ∷ [])
    ∷ on (filled 67 crystal) (field item.Crystal (λ c. c.z) 0 ∷ faults (wrong U 66 1 ∷ []) ∷ [])
    -- P10 REMARK trimmed to 79 is read, to 80 is refusal 5 unless loose
    ∷ on (remark 68) (field item.Remark (λ r. r.text) (record { place = 11; length = 68 }) ∷ faults [] ∷ [])
    ∷ on (remark 69) (refused 5 80 5 ∷ [])
    ∷ on_loose (remark 69) (field item.Remark (λ r. r.text) (record { place = 11; length = 69 }) ∷ faults [] ∷ [])
    -- P11 ATOM of 7 bytes has 14 faults, ANISOU 15
    ∷ on (bytes "ATOM   ") (count 14 ∷ [])
    ∷ on (bytes "ANISOU ") (count 15 ∷ [])
    -- P12 DBREF1 with `1234` in 20..24 gives 234, and in wwPDB mode 1234
    ∷ on (filled 67 reference) (field item.Dbref1 (λ d. d.segment.end) (pos 234) ∷ faults [] ∷ [])
    ∷ on_standard (filled 67 reference) (field item.Dbref1 (λ d. d.segment.end) (pos 1234) ∷ faults [] ∷ [])
    ∷ []

-- ---- exponents (2026-10)
-- the four reals of a SCALE1, in its order
abbrev fours : ℕ → ℕ → ℕ → ℕ → List Claim
fours a b c d =
    field item.Scale (λ s. s.values.a) (real a)
    ∷ field item.Scale (λ s. s.values.b) (real b)
    ∷ field item.Scale (λ s. s.values.c) (real c)
    ∷ field item.Scale (λ s. s.values.d) (real d)
    ∷ []

-- none of them is read
abbrev all_wrong : List Claim
all_wrong = fours 0 0 0 0 ++ faults (wrong R 10 10 ∷ wrong R 20 10 ∷ wrong R 30 10 ∷ wrong R 45 10 ∷ []) ∷ []

abbrev pub exponents : List Case
exponents =
    -- "a plain decimal, then `e` or `E`, an optional sign, at least one digit", with the option on and off; x - p is 1, 22, 22 and -22
    on_taking (bytes "SCALE1         1.2E2      1e22    1.0e23          1e-22")
    (fours 0x405E000000000000 0x4480F0CF064DD592 0x44B52D02C7E14AF6 0x3B5E392010175EE6 ++ faults [] ∷ [])
    ∷ on (bytes "SCALE1         1.2E2      1e22    1.0e23          1e-22") all_wrong
    ∷ on_taking (bytes "SCALE1         -5E+1     1E+05      .5e1           5.e0")
    (fours 0xC049000000000000 0x40F86A0000000000 0x4014000000000000 0x4014000000000000 ++ faults [] ∷ [])
    -- to the nearest; a zero keeps its sign
    ∷ on_taking (bytes "SCALE1    123456e-22    9.5e22    0.0e-9           -0E5")
    (fours 0x3C6C778E53280342 0x44B41DF5D77C6D9D 0 0x8000000000000000 ++ faults [] ∷ [])
    -- x - p is 23, 23, -23 and -23
    ∷ on_taking (bytes "SCALE1          1e23    1.0e24     1e-23         .5e-22") all_wrong
    -- no such form
    ∷ on_taking (bytes "SCALE1            1e       1e+        e5            .e1") all_wrong
    -- "infinities and NaN remain fault 2"
    ∷ on_taking (bytes "SCALE1         1e1.0      1 e5       inf            nan") all_wrong
    -- "The places count of 2026-02 is p"; "a default 0"
    ∷ on_taking (bytes "SCALE1       1.200E2     .5e-1       5e3           1e23")
    (field item.Scale (λ s. s.places) (record { a = 3; b = 1; c = 0; d = 0 }) ∷ faults (wrong R 45 10 ∷ []) ∷ [])
    -- a B factor; an occupancy that isn't read is 1.0
    ∷ on_taking (bytes "ATOM      1  N   ALA A   1      11.104   6.134  -6.504  1e23 1.2E2           N")
    (field item.Atom (λ a. a.occupancy) (real 0x3FF0000000000000)
    ∷ field item.Atom (λ a. a.bfactor) (real 0x405E000000000000)
    ∷ faults (wrong R 54 6 ∷ [])
    ∷ [])
    -- ANISOU's six are integers
    ∷ on_taking (bytes "ANISOU    1  N   ALA A   1      1e2      2      3      4      5      6       N")
    (field item.Anisou (λ a. a.factors.u11) (real 0) ∷ faults (wrong I 28 7 ∷ []) ∷ [])
    ∷ []
