-- "Options: bit 0 atoms only, bit 1 loose, bit 2 wwPDB mode, bit 3 exponents. Others have no effect."
use Rattle.std.specs.Prelude.{ℕ, ◌/◌, ◌%◌, cond, List, eqb}
use Rattle.lexer.specs.Refusals.{Input}
use Rattle.line.specs.declared.options.Mode.{Mode}
use Rattle.line.specs.declared.options.Mode.TheVariants.{Crate, WwPdb}
use Rattle.line.specs.declared.options.Options.{Options}

unfoldable pub mode_of : ℕ → Mode
mode_of bits = cond (eqb (bits / 4 % 2) 1) WwPdb Crate

unfoldable pub options_of : ℕ → Options
options_of bits =
    record { atoms = eqb (bits % 2) 1; loose = eqb (bits / 2 % 2) 1; mode = mode_of bits; exponents = eqb (bits / 8 % 2) 1 }

-- what hosts hand over of a line
abbrev pub input_of : List ℕ → ℕ → ℕ → List ℕ → Input
input_of line number bits remarks = record { line = line; number = number; options = options_of bits; remarks = remarks }
