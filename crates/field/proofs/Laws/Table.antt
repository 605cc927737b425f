-- A table's faults noted field after field are the plain list noted. Assumes nothing.
use mathlib.Core.Path.{◌≡◌, refl}
use mathlib.Core.List.{List, [], ◌∷◌, ◌++◌}
use Rattle.line.specs.Faults.{noted, all_noted}
use Rattle.line.specs.declared.fault.Fault.{Fault}
use Rattle.line.specs.declared.fault.Faults.{Faults}
use Rattle.line.specs.Given.{Given}
use Rattle.field.specs.Table.{Entry, faults_by, table_faults, table_noted}

pub noted-append : (a b : List Fault) (fs : Faults) → all_noted fs (a ++ b) ≡ all_noted (all_noted fs a) b
noted-append [] b fs = refl
noted-append (f ∷ a) b fs = noted-append a b (noted fs f)

pub table-noted : (g : Given) (es : List Entry) (fs : Faults) → table_noted g es fs ≡ all_noted fs (table_faults g es)
table-noted g [] fs = refl
table-noted g (e ∷ es) fs = rw (noted-append (faults_by g e) (table_faults g es) fs) (table-noted g es (all_noted fs (faults_by g e)))

-- one table behind another
pub table-append : (g : Given) (a b : List Entry) (fs : Faults) → table_noted g (a ++ b) fs ≡ table_noted g b (table_noted g a fs)
table-append g [] b fs = refl
table-append g (e ∷ a) b fs = table-append g a b (all_noted fs (faults_by g e))
