-- "SSBOND: T 11..14, C 15, I 17..21, C 21, T 25..28, C 29, I 31..35, C 35; if len is 78 or more, T 59..65 66..72, R 73..78."
use Rattle.std.specs.Prelude.{ℕ, Bool, true, false, Option, Some, None, List, [], ◌∷◌, ◌++◌, length, leb}
use Rattle.field.specs.Number.{signed_at, real_at, places_at, zero_real}
use Rattle.field.specs.Table.{Entry, table_noted, line_noted}
use Rattle.field.specs.Table.Entry.{i, r, t, c, c?}
use Rattle.field.specs.Text.{text_at, character_at, optional_at}
use Rattle.line.specs.Columns.{◌⋯◌, only}
use Rattle.line.specs.Faults.{no_faults}
use Rattle.line.specs.Given.{Given, taking}
use Rattle.line.specs.declared.columns.Columns.{Columns}
use Rattle.line.specs.declared.fault.Faults.{Faults}
use Rattle.line.specs.declared.fault.Got.{Got}
use Rattle.row.specs.Rows.{◌is◌}
use Rattle.row.specs.declared.Row.{Row}
use Rattle.row.specs.declared.Value.{Value}
use Rattle.row.specs.declared.Value.TheVariants.{Signed, Real, Words, One, Nothing}
use Rattle.ssbond.specs.declared.record.Residue.{Residue}
use Rattle.ssbond.specs.declared.record.ResidueAt.{ResidueAt}
use Rattle.ssbond.specs.declared.record.Bond.{Bond}
use Rattle.ssbond.specs.declared.record.SSBond.{SSBond}

-- the columns by name, for the record and its rows; the table has them in numbers
-- the residues on the two sides of a bond
pub data Side : Type 0 where
  first second : Side

abbrev pub residue_at : Side → ResidueAt
residue_at first = record { name = 11 ⋯ 14; chain = 15; number = 17 ⋯ 21; insertion = 21 }
residue_at second = record { name = 25 ⋯ 28; chain = 29; number = 31 ⋯ 35; insertion = 35 }

pub data Field : Type 0 where
  operator : Side → Field
  distance : Field

abbrev pub at : Field → Columns
at (operator first) = 59 ⋯ 65
at (operator second) = 66 ⋯ 72
at distance = 73 ⋯ 78

abbrev pub has_tail : List ℕ → Bool
has_tail l = leb 78 (length l)

abbrev pub tail_table : Bool → List Entry
tail_table true = t (59 ⋯ 65) ∷ t (66 ⋯ 72) ∷ r (73 ⋯ 78) zero_real ∷ []
tail_table false = []

abbrev pub ssbond_table : Bool → List Entry
ssbond_table tail =
    t (11 ⋯ 14) ∷ c (only 15) ∷ i (17 ⋯ 21) ∷ c? (only 21) ∷ t (25 ⋯ 28) ∷ c (only 29) ∷ i (31 ⋯ 35) ∷ c? (only 35) ∷ tail_table tail

-- a side's part of the table
abbrev pub residue_table : ResidueAt → List Entry
residue_table s = t s.name ∷ c (only s.chain) ∷ i s.number ∷ c? (only s.insertion) ∷ []

abbrev pub residue_of : List ℕ → ResidueAt → Residue
residue_of l s = record {
  name = text_at l s.name;
  chain = character_at l s.chain;
  number = signed_at l s.number;
  insertion = optional_at l s.insertion;
}

-- whether the distance may have an exponent is the option's
abbrev pub bond_of : Bool → List ℕ → Bond
bond_of on l = record {
  first = text_at l (at (operator first));
  second = text_at l (at (operator second));
  length = real_at on l (at distance) zero_real;
  places = places_at on l (at distance);
}

abbrev pub tail_of : Bool → Bool → List ℕ → Option Bond
tail_of true on l = Some (bond_of on l)
tail_of false on l = None

abbrev pub ssbond_of : Bool → List ℕ → SSBond
ssbond_of on l = record {
  first = residue_of l (residue_at first);
  second = residue_of l (residue_at second);
  tail = tail_of (has_tail l) on l;
}

-- one side, read from columns that are handed over
abbrev pub got_residue : List ℕ → ResidueAt → Faults → Got Residue
got_residue l s fs = record { value = residue_of l s; faults = line_noted l (residue_table s) fs }

abbrev pub got_tail : Bool → List ℕ → Faults → Got (Option Bond)
got_tail on l fs =
    record { value = tail_of (has_tail l) on l; faults = table_noted (taking on l) (tail_table (has_tail l)) fs }

abbrev pub got_ssbond : Given → Got SSBond
got_ssbond g =
    record { value = ssbond_of g.options.exponents g.line; faults = table_noted g (ssbond_table (has_tail g.line)) no_faults }

-- the symmetry operators and the bond's length, if the line has them
abbrev pub tail_first : Option Bond → Value
tail_first (Some bond) = Words bond.first
tail_first None = Nothing

abbrev pub tail_second : Option Bond → Value
tail_second (Some bond) = Words bond.second
tail_second None = Nothing

abbrev pub tail_length : Option Bond → Value
tail_length (Some bond) = Real bond.length bond.places
tail_length None = Nothing

abbrev pub residue_fields : ResidueAt → Residue → List Row
residue_fields s v =
    s.name.start is Words v.name ∷ s.chain is One v.chain ∷ s.number.start is Signed v.number ∷ s.insertion is One v.insertion ∷ []

abbrev pub ssbond_fields : SSBond → List Row
ssbond_fields v =
    residue_fields (residue_at first) v.first
    ++ residue_fields (residue_at second) v.second
    ++ (at (operator first)).start is tail_first v.tail
    ∷ (at (operator second)).start is tail_second v.tail
    ∷ (at distance).start is tail_length v.tail
    ∷ []
