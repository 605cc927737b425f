-- What a line is read with: the options and the lent remark table. Tables, values and readers are all of this one thing.
use Rattle.std.specs.Prelude.{ℕ, Bool, false, List, []}
use Rattle.line.specs.Options.{plain}
use Rattle.line.specs.declared.options.Mode.{Mode}
use Rattle.line.specs.declared.options.Mode.TheVariants.{Crate}
use Rattle.line.specs.declared.options.Options.{Options}

pub record Given : Type 0 where
  pub line : List ℕ
  pub options : Options
  pub remarks : List ℕ

-- a line alone: what most kinds are read from
abbrev pub alone : List ℕ → Given
alone l = record { line = l; options = plain; remarks = [] }

-- a line and the mode: what the two kinds are read from that the modes read differently
abbrev pub in_mode : Mode → List ℕ → Given
in_mode mode l = record { line = l; options = record { atoms = false; loose = false; mode = mode; exponents = false }; remarks = [] }

-- a line, and whether a real may have an exponent: what the kinds with reals are read from
abbrev pub taking : Bool → List ℕ → Given
taking on l = record { line = l; options = record { atoms = false; loose = false; mode = Crate; exponents = on }; remarks = [] }
