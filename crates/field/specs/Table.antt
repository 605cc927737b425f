-- The fields of a kind, in the order of its faults. "Faults stand in ascending columns, except that ATOM puts 30..66 and ANISOU 28..70 first.
-- Fault 5 follows a fault of the remark number itself." A kind's table has every field of its row in 01, those that can't fault too, and each
-- entry gives at most one fault.
use Rattle.std.specs.Prelude.{ℕ, Bool, true, ◌&&◌, List, [], ◌∷◌, ◌++◌, Float}
use Rattle.line.specs.Faults.{all_noted}
use Rattle.line.specs.Given.{Given, alone}
use Rattle.line.specs.declared.columns.Columns.{Columns}
use Rattle.line.specs.declared.fault.Fault.{Fault}
use Rattle.line.specs.declared.fault.Faults.{Faults}
use Rattle.field.specs.Found.{is_fine}
use Rattle.field.specs.Number.{unsigned_at, unsigned_faults, signed_faults, real_faults, factor_faults, unsigned_from_faults}
use Rattle.field.specs.Text.{text_faults, character_faults}
use Rattle.field.specs.Charge.{charge_faults}
use Rattle.field.specs.Remark.{known_faults}

pub data Entry : Type 0 where
  -- U, I, R with its default, T and C in their columns
  u : Columns → Entry
  i : Columns → Entry
  r : Columns → Float → Entry
  t : Columns → Entry
  c : Columns → Entry
  -- a C whose blank means absent
  c? : Columns → Entry
  -- one of ANISOU's six
  a : Columns → Entry
  -- U from a column to the line's end
  u-rest : ℕ → Entry
  -- X; a text of what the line reaches of the columns; a text that ends with the line; the same with its end alone trimmed
  x : Columns → Entry
  t_within : Columns → Entry
  t-rest : ℕ → Entry
  t-end : ℕ → Entry
  charge : Columns → Entry
  -- the number in the columns is in the remark table
  known : Columns → Entry
  -- a byte that is looked at, a number that isn't written, and SEQRES's triples
  given : ℕ → Entry
  unwritten : ℕ → Entry
  triples : ℕ → Entry

abbrev pub faults_by : Given → Entry → List Fault
faults_by g (u at) = unsigned_faults g.line at
faults_by g (i at) = signed_faults g.line at
faults_by g (r at default) = real_faults g.options.exponents g.line at
faults_by g (t at) = text_faults g.line at
faults_by g (c at) = character_faults g.line at.start
faults_by g (c? at) = character_faults g.line at.start
faults_by g (a at) = factor_faults g.line at
faults_by g (u-rest start) = unsigned_from_faults g.line start
faults_by g (x at) = []
faults_by g (t_within at) = []
faults_by g (t-rest start) = []
faults_by g (t-end start) = []
faults_by g (charge at) = charge_faults g.line at
faults_by g (known at) = known_faults g.remarks (unsigned_at g.line at) at
faults_by g (given column) = []
faults_by g (unwritten column) = []
faults_by g (triples start) = []

-- the faults of a table, in its order
abbrev pub table_faults : Given → List Entry → List Fault
table_faults g [] = []
table_faults g (e ∷ rest) = faults_by g e ++ table_faults g rest

-- the same, noted one field after the other as a reader goes
abbrev pub table_noted : Given → List Entry → Faults → Faults
table_noted g [] fs = fs
table_noted g (e ∷ rest) fs = table_noted g rest (all_noted fs (faults_by g e))

-- whether every field of a table is fine
abbrev pub all_fine : Given → List Entry → Bool
all_fine g [] = true
all_fine g (e ∷ rest) = is_fine (faults_by g e) && all_fine g rest

-- ---- of a line alone
abbrev pub line_noted : List ℕ → List Entry → Faults → Faults
line_noted l table fs = table_noted (alone l) table fs

abbrev pub line_fine : List ℕ → List Entry → Bool
line_fine l table = all_fine (alone l) table
