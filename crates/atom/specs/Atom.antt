-- "ATOM, HETATM: U 6..11, T 12..16, C 16, T 17..20, C 21, I 22..26, C 26, R 30..38 38..46 46..54 54..60 60..66, T 72..76 76..78, charge
-- 78..80. ANISOU: as ATOM, but for the R: I 28..35 35..42 42..49 49..56 56..63 63..70, each made a double and divided by 10000.0."
-- "Faults stand in ascending columns, except that ATOM puts 30..66 and ANISOU 28..70 first."
use Rattle.std.specs.Prelude.{ℕ, ◌≡◌, Bool, true, false, cond, List, [], ◌∷◌, ◌++◌, Option, Some, None, IfSome}
use Rattle.field.specs.Charge.{charge_at}
use Rattle.field.specs.Number.{unsigned_at, signed_at, real_at, places_at, factor_at, zero_real, one_real}
use Rattle.field.specs.Table.{Entry, line_fine, table_noted}
use Rattle.field.specs.Table.Entry.{u, i, r, t, c, c?, a}
use Rattle.field.specs.Text.{text_at, character_at, optional_at}
use Rattle.line.specs.Columns.{◌⋯◌, only}
use Rattle.line.specs.Faults.{no_faults}
use Rattle.line.specs.Given.{Given}
use Rattle.line.specs.declared.columns.Columns.{Columns}
use Rattle.line.specs.declared.fault.Got.{Got}
use Rattle.row.specs.Rows.{◌is◌}
use Rattle.row.specs.declared.Row.{Row}
use Rattle.row.specs.declared.Value.TheVariants.{Unsigned, Signed, Real, Factor, Words, One}
use Rattle.atom.specs.declared.record.Basics.{Basics}
use Rattle.atom.specs.declared.record.Position.{Position}
use Rattle.atom.specs.declared.record.PositionPlaces.{PositionPlaces}
use Rattle.atom.specs.declared.record.Atom.{Atom}
use Rattle.atom.specs.declared.record.Factors.{Factors}
use Rattle.atom.specs.declared.record.Anisou.{Anisou}
use Rattle.atom.specs.declared.read.Placed.{Placed}

-- the columns by name, for the records and their rows; the tables have them in numbers
pub data Field : Type 0 where
  serial name alternate residue chain number insertion segment element charge : Field
  x y z occupancy bfactor : Field
  u11 u22 u33 u12 u13 u23 : Field

abbrev pub at : Field → Columns
at serial = 6 ⋯ 11
at name = 12 ⋯ 16
at alternate = only 16
at residue = 17 ⋯ 20
at chain = only 21
at number = 22 ⋯ 26
at insertion = only 26
at x = 30 ⋯ 38
at y = 38 ⋯ 46
at z = 46 ⋯ 54
at occupancy = 54 ⋯ 60
at bfactor = 60 ⋯ 66
at u11 = 28 ⋯ 35
at u22 = 35 ⋯ 42
at u33 = 42 ⋯ 49
at u12 = 49 ⋯ 56
at u13 = 56 ⋯ 63
at u23 = 63 ⋯ 70
at segment = 72 ⋯ 76
at element = 76 ⋯ 78
at charge = 78 ⋯ 80

-- ---- the tables, in the order of the faults
-- what the three kinds share
abbrev pub basics_table : List Entry
basics_table =
    u (6 ⋯ 11) ∷ t (12 ⋯ 16) ∷ c? (only 16) ∷ t (17 ⋯ 20) ∷ c (only 21) ∷ i (22 ⋯ 26) ∷ c? (only 26)
    ∷ t (72 ⋯ 76) ∷ t (76 ⋯ 78) ∷ Entry.charge (78 ⋯ 80) ∷ []

abbrev pub position_table : List Entry
position_table = r (30 ⋯ 38) zero_real ∷ r (38 ⋯ 46) zero_real ∷ r (46 ⋯ 54) zero_real ∷ []

-- an occupancy that can't be read is 1.0
abbrev pub atom_table : List Entry
atom_table = position_table ++ r (54 ⋯ 60) one_real ∷ r (60 ⋯ 66) zero_real ∷ basics_table

abbrev pub factors_table : List Entry
factors_table = a (28 ⋯ 35) ∷ a (35 ⋯ 42) ∷ a (42 ⋯ 49) ∷ a (49 ⋯ 56) ∷ a (56 ⋯ 63) ∷ a (63 ⋯ 70) ∷ []

abbrev pub anisou_table : List Entry
anisou_table = factors_table ++ basics_table

-- ---- the records; whether a real may have an exponent is the option's
abbrev pub basics_of : List ℕ → Basics
basics_of l = record {
  serial = unsigned_at l (at serial);
  name = text_at l (at name);
  alternate = optional_at l (at alternate).start;
  residue = text_at l (at residue);
  chain = character_at l (at chain).start;
  number = signed_at l (at number);
  insertion = optional_at l (at insertion).start;
  segment = text_at l (at segment);
  element = text_at l (at element);
  charge = charge_at l (at charge);
}

abbrev pub position_of : Bool → List ℕ → Position
position_of on l = record { x = real_at on l (at x) zero_real; y = real_at on l (at y) zero_real; z = real_at on l (at z) zero_real }

abbrev pub position_places_of : Bool → List ℕ → PositionPlaces
position_places_of on l = record { x = places_at on l (at x); y = places_at on l (at y); z = places_at on l (at z) }

abbrev pub placed_of : Bool → List ℕ → Placed
placed_of on l = record { position = position_of on l; places = position_places_of on l }

abbrev pub atom_of : Bool → Bool → List ℕ → Atom
atom_of hetero on l = record {
  hetero = hetero;
  basics = basics_of l;
  position = position_of on l;
  occupancy = real_at on l (at occupancy) one_real;
  bfactor = real_at on l (at bfactor) zero_real;
  places = record {
    position = position_places_of on l;
    occupancy = places_at on l (at occupancy);
    bfactor = places_at on l (at bfactor);
  };
}

abbrev pub factors_of : List ℕ → Factors
factors_of l = record {
  u11 = factor_at l (at u11);
  u22 = factor_at l (at u22);
  u33 = factor_at l (at u33);
  u12 = factor_at l (at u12);
  u13 = factor_at l (at u13);
  u23 = factor_at l (at u23);
}

abbrev pub anisou_of : List ℕ → Anisou
anisou_of l = record { basics = basics_of l; factors = factors_of l }

-- ---- what the readers answer
abbrev pub got_atom : Bool → Given → Got Atom
got_atom hetero g = record { value = atom_of hetero g.options.exponents g.line; faults = table_noted g atom_table no_faults }

abbrev pub got_anisou : Given → Got Anisou
got_anisou g = record { value = anisou_of g.line; faults = table_noted g anisou_table no_faults }

-- what was read without a list, and without exponents, is the line's, and all of it is fine
abbrev pub SaysBasics : List ℕ → Option Basics → Type 0
SaysBasics l got = IfSome got (λ v. (v ≡ basics_of l) × (line_fine l basics_table ≡ true))

abbrev pub SaysPosition : List ℕ → Option Placed → Type 0
SaysPosition l got = got ≡ cond (line_fine l position_table) (Some (placed_of false l)) None

abbrev pub SaysAtom : Bool → List ℕ → Option Atom → Type 0
SaysAtom hetero l got = IfSome got (λ v. (v ≡ atom_of hetero false l) × (line_fine l atom_table ≡ true))

-- ---- the rows, ascending; what the kinds share stands before and behind the reals
abbrev pub basics_fields : Basics → List Row → List Row
basics_fields b reals =
    (at serial).start is Unsigned b.serial
    ∷ (at name).start is Words b.name
    ∷ (at alternate).start is One b.alternate
    ∷ (at residue).start is Words b.residue
    ∷ (at chain).start is One b.chain
    ∷ (at number).start is Signed b.number
    ∷ (at insertion).start is One b.insertion
    ∷ reals
    ++ (at segment).start is Words b.segment
    ∷ (at element).start is Words b.element
    ∷ (at charge).start is Signed b.charge
    ∷ []

abbrev pub atom_fields : Atom → List Row
atom_fields v =
    basics_fields v.basics
    ((at x).start is Real v.position.x v.places.position.x
    ∷ (at y).start is Real v.position.y v.places.position.y
    ∷ (at z).start is Real v.position.z v.places.position.z
    ∷ (at occupancy).start is Real v.occupancy v.places.occupancy
    ∷ (at bfactor).start is Real v.bfactor v.places.bfactor
    ∷ [])

abbrev pub anisou_fields : Anisou → List Row
anisou_fields v =
    basics_fields v.basics
    ((at u11).start is Factor v.factors.u11
    ∷ (at u22).start is Factor v.factors.u22
    ∷ (at u33).start is Factor v.factors.u33
    ∷ (at u12).start is Factor v.factors.u12
    ∷ (at u13).start is Factor v.factors.u13
    ∷ (at u23).start is Factor v.factors.u23
    ∷ [])
