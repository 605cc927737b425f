-- Most readers take the line alone, two the mode with it, and those of reals whether they may have exponents. Where a table goes by the line or by the
-- mode, it notes the same either way.
--     noted-part      a table with a part that only some lines have, if it does with the part and without
--     model-noted     MODEL's, in either mode
-- Assumes nothing.
use mathlib.Core.Path.{◌≡◌, refl}
use mathlib.Core.Bool.{Bool, true, false}
use mathlib.Core.List.{List}
use Rattle.field.specs.Table.{Entry, table_noted}
use Rattle.line.specs.Faults.{no_faults}
use Rattle.line.specs.Given.{Given, in_mode}
use Rattle.line.specs.declared.options.Mode.{Mode}
use Rattle.line.specs.declared.options.Mode.TheVariants.{Crate, WwPdb}
use Rattle.model.specs.Model.{model_table}

pub noted-part : (table : Bool → List Entry) (own g : Given) → table_noted own (table true) no_faults ≡ table_noted g (table true) no_faults
    → table_noted own (table false) no_faults ≡ table_noted g (table false) no_faults
    → (part : Bool) → table_noted own (table part) no_faults ≡ table_noted g (table part) no_faults
noted-part table own g p q true = p
noted-part table own g p q false = q

pub model-noted : (g : Given) (mode : Mode)
    → table_noted (in_mode mode g.line) (model_table mode) no_faults ≡ table_noted g (model_table mode) no_faults
model-noted g Crate = refl
model-noted g WwPdb = refl
