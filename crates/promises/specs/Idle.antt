-- "With the option off nothing changes" (2026-10): the definitions then are what they were. With it on, a line in whose real fields no exponent stands is
-- one that has nothing to change either.
--     with_exponents    an input with the option on or off
--     idle             no exponent stands in a real field of the line
use Rattle.std.specs.Prelude.{ℕ, Bool, true, ◌&&◌, List, [], ◌∷◌, is_none}
use Rattle.number.specs.Wide.{marked_of}
use Rattle.line.specs.Columns.{part_of}
use Rattle.field.specs.Table.{Entry}
use Rattle.field.specs.Table.Entry.{u, i, r, t, c, c?, a, u-rest, x, t_within, t-rest, t-end, charge, known, given, unwritten, triples}
use Rattle.lexitem.specs.Describe.{fields_by}
use Rattle.lexer.specs.Refusals.{Input}
use Rattle.lexer.specs.Refusals as refusals

abbrev pub with_exponents : Bool → Input → Input
with_exponents on input = record {
  line = input.line;
  number = input.number;
  options = record {
    atoms = input.options.atoms;
    loose = input.options.loose;
    mode = input.options.mode;
    exponents = on;
  };
  remarks = input.remarks;
}

-- no exponent stands in a real's columns
abbrev pub unmarked_in : List ℕ → Entry → Bool
unmarked_in l (u at) = true
unmarked_in l (i at) = true
unmarked_in l (r at default) = is_none (marked_of (part_of l at))
unmarked_in l (t at) = true
unmarked_in l (c at) = true
unmarked_in l (c? at) = true
unmarked_in l (a at) = true
unmarked_in l (u-rest start) = true
unmarked_in l (x at) = true
unmarked_in l (t_within at) = true
unmarked_in l (t-rest start) = true
unmarked_in l (t-end start) = true
unmarked_in l (charge at) = true
unmarked_in l (known at) = true
unmarked_in l (given column) = true
unmarked_in l (unwritten column) = true
unmarked_in l (triples start) = true

abbrev pub unmarked : List ℕ → List Entry → Bool
unmarked l [] = true
unmarked l (e ∷ rest) = unmarked_in l e && unmarked l rest

abbrev pub idle : Input → Bool
idle input = unmarked input.line (fields_by (refusals.kind input) (refusals.given input))
