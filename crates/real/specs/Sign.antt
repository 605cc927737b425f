-- The sign of an integer, as a double has it: true where it is below zero.
use Rattle.std.specs.Prelude.{Bool, true, false, ℤ, pos, negsuc}

-- whether an integer is below zero
abbrev pub below : ℤ → Bool
below (pos n) = false
below (negsuc n) = true
