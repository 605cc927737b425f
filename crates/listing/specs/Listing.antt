-- "Lines in order: `record`, `line` (from 1), `f` with each present field's first column, ascending, `faults`, then each
-- `fault=kind,place,length`." Every row ends with LF.
use Rattle.std.specs.Prelude.{ℕ, List, ◌++◌, length}
use Rattle.line.specs.Bytes.{bytes}
use Rattle.line.specs.declared.fault.Fault.{Fault}
use Rattle.lexitem.specs.declared.item.LexItem.{LexItem}
use Rattle.kind.specs.Name.{name_of}
use Rattle.lexitem.specs.Describe.{fields_of, kind_of_item}
use Rattle.layout.specs.Fault.{faults_bytes}
use Rattle.layout.specs.Label.{head_rows, number_row}
use Rattle.layout.specs.Row.{rows_bytes}

-- the listing of a line l that has a number, an item and faults
unfoldable pub listing_of : ℕ → List ℕ → LexItem → List Fault → List ℕ
listing_of number l item fs =
    head_rows (name_of (kind_of_item item)) number
    ++ rows_bytes l (fields_of item)
    ++ number_row (bytes "faults=") (length fs)
    ++ faults_bytes fs

-- room enough for the listing of any line that is accepted
abbrev pub longest : ℕ
longest = 4096
