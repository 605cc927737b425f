-- "MASTER: twelve U of width 5 from 10."
use Rattle.std.specs.Prelude.{ℕ, ◌+◌, ◌*◌, List, [], ◌∷◌, map}
use Rattle.field.specs.Number.{unsigned_at}
use Rattle.field.specs.Table.{Entry, table_noted}
use Rattle.field.specs.Table.Entry.{u}
use Rattle.line.specs.Columns.{◌⋯◌, in_row}
use Rattle.line.specs.Faults.{no_faults}
use Rattle.line.specs.Given.{Given}
use Rattle.line.specs.declared.columns.Columns.{Columns}
use Rattle.line.specs.declared.fault.Got.{Got}
use Rattle.row.specs.Rows.{◌is◌}
use Rattle.row.specs.declared.Row.{Row}
use Rattle.row.specs.declared.Value.TheVariants.{Unsigned}
use Rattle.master.specs.declared.record.Master.{Master}

abbrev pub master_table : List Entry
master_table = map u (in_row 12 5 10)

-- the columns of the n-th number, from 0
abbrev pub at : ℕ → Columns
at n = (10 + 5 * n) ⋯ (15 + 5 * n)

abbrev pub master_of : List ℕ → Master
master_of l = record {
  remark = unsigned_at l (at 0);
  empty = unsigned_at l (at 1);
  het = unsigned_at l (at 2);
  helix = unsigned_at l (at 3);
  sheet = unsigned_at l (at 4);
  turn = unsigned_at l (at 5);
  site = unsigned_at l (at 6);
  xform = unsigned_at l (at 7);
  coord = unsigned_at l (at 8);
  ter = unsigned_at l (at 9);
  connect = unsigned_at l (at 10);
  seq = unsigned_at l (at 11);
}

abbrev pub got_master : Given → Got Master
got_master g = record { value = master_of g.line; faults = table_noted g master_table no_faults }

abbrev pub master_fields : Master → List Row
master_fields v =
    (at 0).start is Unsigned v.remark
    ∷ (at 1).start is Unsigned v.empty
    ∷ (at 2).start is Unsigned v.het
    ∷ (at 3).start is Unsigned v.helix
    ∷ (at 4).start is Unsigned v.sheet
    ∷ (at 5).start is Unsigned v.turn
    ∷ (at 6).start is Unsigned v.site
    ∷ (at 7).start is Unsigned v.xform
    ∷ (at 8).start is Unsigned v.coord
    ∷ (at 9).start is Unsigned v.ter
    ∷ (at 10).start is Unsigned v.connect
    ∷ (at 11).start is Unsigned v.seq
    ∷ []
