-- What was put where a field wasn't read.
--     Put           the record has a row for the fault's field, whose value is called what the fault's row says
--     put_there     so it is for every fault of a line that the program reads
-- Assumes nothing.
use Prim.Native.Nat.{ℕ}
use mathlib.Core.Path.{◌≡◌, refl}
use mathlib.Core.List.{List, [], ◌∷◌, ◌++◌}
use mathlib.Core.Logic.{inl}
use lib.Dec.{T}
use Rattle.field.specs.Table.{Entry, faults_by, table_faults}
use Rattle.kind.specs.declared.Kind.{Kind}
use Rattle.lexer.specs.Refusals.{kind, given as given_of, faults}
use Rattle.lexitem.specs.Describe.{describe, fields_by, item_of, fields_of, faults_of}
use Rattle.lexitem.specs.Shown.{shown_by, shown}
use Rattle.line.specs.Given.{Given}
use Rattle.line.specs.declared.fault.Fault.{Fault}
use Rattle.names.specs.Names.{default_text}
use Rattle.row.specs.Rows.{◌is◌}
use Rattle.row.specs.declared.Row.{Row}
use Rattle.row.specs.declared.Value.{Value}
use Rattle.account.specs.Account.{input_of}
use Rattle.account.specs.Rows.{is_of, called}
use Rattle.account.proofs.Laws.Agree.{kind-agrees, either-part}
use Rattle.account.proofs.Laws.InRows.{In, left_in, right_in, record_in}
use Rattle.account.proofs.Laws.Unread.{Each, Shows, AllShow, table-put}

pub record Put (k : Kind) (g : Given) (f : Fault) : Type 0 where
  pub column : ℕ
  pub holds : Value
  pub its : T (is_of column f.place)
  pub so : called holds ≡ default_text k f.place
  pub row : In (column is holds) (fields_of (item_of k g))

module _ (k : Kind) (g : Given) where
  each-put : (e : Entry) (fs : List Fault) → Each (Shows k g e) fs
      → ((row : Row) → In row (shown_by g e) → In row (shown g (fields_by k g))) → Each (Put k g) fs
  each-put e [] h up = tt
  each-put e (f ∷ fs) h up =
      let s = h.0 in
      let there : In (s.column is s.holds) (shown_by g e) = rw s.shows (inl refl) in (
        record { column = s.column; holds = s.holds; its = s.its; so = s.so; row = record_in k g s.column s.holds s.some (up (s.column is s.holds) there) },
        each-put e fs h.1 up,
      )

  append-each : (s z : List Fault) → Each (Put k g) s → Each (Put k g) z → Each (Put k g) (s ++ z)
  append-each [] z h w = w
  append-each (f ∷ s) z h w = (h.0, append-each s z h.1 w)

  faults-put : (es : List Entry) → AllShow k g es → ((row : Row) → In row (shown g es) → In row (shown g (fields_by k g)))
      → Each (Put k g) (table_faults g es)
  faults-put [] h up = tt
  faults-put (e ∷ es) h up =
      append-each (faults_by g e) (table_faults g es) (each-put e (faults_by g e) h.0 (λ row m. up row (left_in row (shown_by g e) (shown g es) m)))
      (faults-put es h.1 (λ row m. up row (right_in row (shown_by g e) (shown g es) m)))

-- ---- a line
pub put_there : (number : ℕ) (l : List ℕ) → Each (Put (kind (input_of number l)) (given_of (input_of number l))) (faults (input_of number l))
unfolding faults_of
put_there number l =
    let k = kind (input_of number l) in
    let g = given_of (input_of number l) in
    faults-put k g (fields_by k g) (table-put k g refl (fields_by k g) (either-part k (kind-agrees l) ((describe k).part l))) (λ row m. m)
