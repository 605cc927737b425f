-- What the definitions give for 01's own example and at their edges, so that no wrong constant in them goes unseen.
--     models     a MODEL with no fault and one with a fault, and one that was read in wwPDB mode
--     dbref1     a DBREF1 that was read in each mode
--     scale      a transformation row, its reals as hex digits
--     modres     a text with bytes that are escaped, an unreached chain, and an insertion code that is absent
--     seqadv     no residue of the database
-- Assumes nothing.
use Prim.Native.Nat.{ℕ}
use Prim.Native.String.{String}
use mathlib.Core.Path.{◌≡◌, refl}
use mathlib.Core.List.{List, [], ◌∷◌, ◌++◌}
use lib.IntN.{pos, negsuc}
use lib.Ieee.{binary64, of_bits, to_bits}
use Rattle.std.specs.Prelude.{None}
use Rattle.line.specs.Bytes.{bytes}
use Rattle.line.specs.Text.{within_of}
use Rattle.line.specs.declared.fault.FaultKind.TheVariants.{Wrong}
use Rattle.line.specs.declared.fault.Sort.TheVariants.{Unsigned}
use Rattle.line.specs.declared.options.Mode.{Mode}
use Rattle.line.specs.declared.options.Mode.TheVariants.{Crate, WwPdb}
use Rattle.lexitem.specs.declared.item.LexItem.TheVariants.{Model, Scale, Dbref1, Seqadv, Modres}
use Rattle.line.specs.declared.text.Character.TheVariants.{At, Unreached, Absent}
use Rattle.line.specs.declared.text.Text.{Text}
use Rattle.page.specs.Numerals.{decimal_before, decimal, signed_decimal, hex_digit, hex_before, hex16, plain, shown, escaped}
use Rattle.kind.specs.Kind.{row_place}
use Rattle.layout.specs.Each.{each}
use Rattle.layout.specs.Label.{head_rows, number_row, three_row}
use Rattle.listing.specs.Listing.{listing_of}
use Rattle.layout.specs.Row.{row_bytes}

-- rows of a listing as one writes them
abbrev lines : List String → List ℕ
lines [] = []
lines (s ∷ t) = bytes s ++ 10 ∷ lines t

abbrev text : ℕ → ℕ → Text
text place n = record { place = place; length = n }

pub models : (listing_of 1 (bytes "MODEL        2") (Model (record { number = 2; mode = Crate })) []
    ≡ lines ("record=MODEL" ∷ "line=1" ∷ "f6=2" ∷ "faults=0" ∷ []))
    × (listing_of 2 (bytes "MODEL x") (Model (record { number = 0; mode = Crate })) (record { kind = Wrong Unsigned; place = 6; length = 1 } ∷ [])
    ≡ lines ("record=MODEL" ∷ "line=2" ∷ "f6=0" ∷ "faults=1" ∷ "fault=2,6,1" ∷ []))
    × (listing_of 1 (bytes "MODEL        2") (Model (record { number = 2; mode = WwPdb })) []
    ≡ lines ("record=MODEL" ∷ "line=1" ∷ "f10=2" ∷ "faults=0" ∷ []))
unfolding listing_of head_rows number_row three_row each row_bytes decimal decimal_before
models = (refl, refl, refl)

-- a DBREF1's listing, and as one writes it with a row for its segment's end
abbrev reference_by : Mode → List ℕ
reference_by mode =
    listing_of 4 []
    (Dbref1
    (record {
      code = text 0 0;
      chain = text 0 0;
      segment = record { begin = pos 61; opening = Absent; end = pos 322; closing = Absent };
      database = text 0 0;
      name = text 0 0;
      mode = mode;
    }))
    []

abbrev reference_with : String → List ℕ
reference_with end = lines ("record=DBREF1" ∷ "line=4" ∷ "f7=" ∷ "f12=" ∷ "f14=61" ∷ end ∷ "f26=" ∷ "f47=" ∷ "faults=0" ∷ [])

pub dbref1 : (reference_by Crate ≡ reference_with "f21=322") × (reference_by WwPdb ≡ reference_with "f20=322")
unfolding listing_of head_rows number_row each row_bytes decimal decimal_before signed_decimal escaped within_of
dbref1 = (refl, refl)

pub scale : listing_of 3 []
    (Scale
    (record {
      row = 0;
      values = record {
        a = of_bits binary64 0x3FF8_0000_0000_0000;
        b = of_bits binary64 0;
        c = of_bits binary64 0xBFE0_0000_0000_0000;
        d = of_bits binary64 0x3FD0_0000_0000_0000;
      };
      places = record { a = 1; b = 0; c = 2; d = 9 };
    }))
    []
    ≡ lines
    ("record=SCALE1"
    ∷ "line=3"
    ∷ "f10=3FF8000000000000"
    ∷ "f20=0000000000000000"
    ∷ "f30=BFE0000000000000"
    ∷ "f45=3FD0000000000000"
    ∷ "faults=0"
    ∷ [])
unfolding listing_of head_rows number_row each row_bytes decimal decimal_before hex16 hex_before hex_digit of_bits to_bits row_place
scale = refl

pub modres : listing_of 7 (97 ∷ 37 ∷ 127 ∷ 32 ∷ [])
    (Modres
    (record {
      code = text 0 3;
      residue = text 0 0;
      chain = Unreached;
      number = negsuc 4;
      insertion = Absent;
      standard = text 3 1;
      comment = text 3 9;
    }))
    []
    ≡ lines
    ("record=MODRES" ∷ "line=7" ∷ "f7=a%25%7F" ∷ "f12=" ∷ "f16= " ∷ "f18=-5" ∷ "f24= " ∷ "f29=" ∷ "faults=0" ∷ [])
unfolding listing_of head_rows number_row each row_bytes decimal decimal_before signed_decimal escaped shown plain hex_digit within_of
modres = refl

pub seqadv : listing_of 8 (97 ∷ 98 ∷ [])
    (Seqadv
    (record {
      code = text 0 2;
      residue = text 0 0;
      chain = text 0 1;
      number = pos 10;
      insertion = At 1;
      database = text 0 0;
      accession = text 0 0;
      target = None;
      comment = text 0 0;
    }))
    []
    ≡ lines
    ("record=SEQADV"
    ∷ "line=8"
    ∷ "f7=ab"
    ∷ "f12="
    ∷ "f16=a"
    ∷ "f18=10"
    ∷ "f22=b"
    ∷ "f24="
    ∷ "f29="
    ∷ "f49="
    ∷ "faults=0"
    ∷ [])
unfolding listing_of head_rows number_row each row_bytes decimal decimal_before signed_decimal escaped shown plain within_of
seqadv = refl
