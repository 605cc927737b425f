-- "Options are two: atoms only, and loose or not." "Add a third option, crate or wwPDB." "Add a read option for exponents."
use Rattle.std.specs.Prelude.{false}
use Rattle.line.specs.declared.options.Mode.TheVariants.{Crate}
use Rattle.line.specs.declared.options.Options.{Options}

-- all kinds, not loose, in crate mode, without exponents
abbrev pub plain : Options
plain = record { atoms = false; loose = false; mode = Crate; exponents = false }
