-- `writer::write_as_read` meets its contract: what is asked for are the counts of the record's reals.
-- Assumes nothing.
use mathlib.Core.Path.{refl}
use Rattle.writer.proofs.Laws.Counts.{counts-put}
use Rattle.writer.proofs.write_as_read.Goals as goal

pub slice_bounds-bytes-end : goal.slice_bounds-bytes-end
slice_bounds-bytes-end c = (counts-put c.args.item _ _ _ _ c.rows_of-rows.ensures refl c.put_places-n.ensures).room

pub slice_bounds-write_record-end : goal.slice_bounds-write_record-end
slice_bounds-write_record-end c = (counts-put c.args.item _ _ _ _ c.rows_of-rows.ensures refl c.put_places-n.ensures).counted

pub returns : goal.returns
returns c =
    let counts = counts-put c.args.item _ _ _ _ c.rows_of-rows.ensures refl c.put_places-n.ensures in
    rw counts.is at c.write_record.ensures
