-- "DBREF: T 7..11 12..13, I 14..18, C 18, I 20..24, C 24, T 26..32 33..41 42..54, I 55..60, C 60, I 62..67, C 67. DBREF1: T 7..11 12..13,
-- I 14..18, C 18, I 21..24, C 24, T 26..32 47..67. DBREF2: T 7..11 12..13 18..40, I 45..55 57..67." In wwPDB mode DBREF1's end is
-- where "wwPDB has it in 20..24".
use Rattle.std.specs.Prelude.{ℕ, List, [], ◌∷◌, ◌++◌}
use Rattle.field.specs.Number.{signed_at}
use Rattle.field.specs.Table.{Entry, table_noted, line_noted}
use Rattle.field.specs.Table.Entry.{i, t, c}
use Rattle.field.specs.Text.{text_at, character_at}
use Rattle.line.specs.Columns.{◌⋯◌, only}
use Rattle.line.specs.Faults.{no_faults}
use Rattle.line.specs.Given.{Given}
use Rattle.line.specs.declared.columns.Columns.{Columns}
use Rattle.line.specs.declared.fault.Faults.{Faults}
use Rattle.line.specs.declared.fault.Got.{Got}
use Rattle.line.specs.declared.options.Mode.{Mode}
use Rattle.line.specs.declared.options.Mode.TheVariants.{Crate, WwPdb}
use Rattle.row.specs.Rows.{◌is◌}
use Rattle.row.specs.declared.Row.{Row}
use Rattle.row.specs.declared.Value.TheVariants.{Signed, Words, One}
use Rattle.dbref.specs.declared.record.Segment.{Segment}
use Rattle.dbref.specs.declared.record.SegmentAt.{SegmentAt}
use Rattle.dbref.specs.declared.record.Dbref.{Dbref}
use Rattle.dbref.specs.declared.record.Dbref1.{Dbref1}
use Rattle.dbref.specs.declared.record.Dbref2.{Dbref2}

-- ---- the tables
-- in crate mode a DBREF1's end begins a column later
abbrev pub end_by : Mode → Columns
end_by Crate = 21 ⋯ 24
end_by WwPdb = 20 ⋯ 24

abbrev pub dbref_table : List Entry
dbref_table =
    t (7 ⋯ 11) ∷ t (12 ⋯ 13) ∷ i (14 ⋯ 18) ∷ c (only 18) ∷ i (20 ⋯ 24) ∷ c (only 24) ∷ t (26 ⋯ 32) ∷ t (33 ⋯ 41) ∷ t (42 ⋯ 54)
    ∷ i (55 ⋯ 60) ∷ c (only 60) ∷ i (62 ⋯ 67) ∷ c (only 67) ∷ []

abbrev pub dbref1_table : Mode → List Entry
dbref1_table mode =
    t (7 ⋯ 11) ∷ t (12 ⋯ 13) ∷ i (14 ⋯ 18) ∷ c (only 18) ∷ i (end_by mode) ∷ c (only 24) ∷ t (26 ⋯ 32) ∷ t (47 ⋯ 67) ∷ []

abbrev pub dbref2_table : List Entry
dbref2_table = t (7 ⋯ 11) ∷ t (12 ⋯ 13) ∷ t (18 ⋯ 40) ∷ i (45 ⋯ 55) ∷ i (57 ⋯ 67) ∷ []

-- ---- the columns by name, for the records and their rows
-- where a stretch of a sequence begins and ends, with insertion codes
abbrev pub ending_in : Columns → SegmentAt
ending_in end = record { begin = 14 ⋯ 18; opening = 18; end = end; closing = 24 }

abbrev pub own_segment : SegmentAt
own_segment = ending_in (20 ⋯ 24)

abbrev pub segment_by : Mode → SegmentAt
segment_by mode = ending_in (end_by mode)

abbrev pub database_segment : SegmentAt
database_segment = record { begin = 55 ⋯ 60; opening = 60; end = 62 ⋯ 67; closing = 67 }

pub data Field : Type 0 where
  code chain database accession name name1 accession2 begin2 end2 : Field

-- a number says whose the field is, where it isn't DBREF's
abbrev pub at : Field → Columns
at code = 7 ⋯ 11
at chain = 12 ⋯ 13
at database = 26 ⋯ 32
at accession = 33 ⋯ 41
at name = 42 ⋯ 54
at name1 = 47 ⋯ 67
at accession2 = 18 ⋯ 40
at begin2 = 45 ⋯ 55
at end2 = 57 ⋯ 67

-- a segment's part of a table
abbrev pub segment_table : SegmentAt → List Entry
segment_table s = i s.begin ∷ c (only s.opening) ∷ i s.end ∷ c (only s.closing) ∷ []

abbrev pub segment_of : List ℕ → SegmentAt → Segment
segment_of l s = record {
  begin = signed_at l s.begin;
  opening = character_at l s.opening;
  end = signed_at l s.end;
  closing = character_at l s.closing;
}

abbrev pub dbref_of : List ℕ → Dbref
dbref_of l = record {
  code = text_at l (at code);
  chain = text_at l (at chain);
  segment = segment_of l own_segment;
  database = text_at l (at database);
  accession = text_at l (at accession);
  name = text_at l (at name);
  target = segment_of l database_segment;
}

-- a record says by which mode it was read
abbrev pub dbref1_of : Mode → List ℕ → Dbref1
dbref1_of mode l = record {
  code = text_at l (at code);
  chain = text_at l (at chain);
  segment = segment_of l (segment_by mode);
  database = text_at l (at database);
  name = text_at l (at name1);
  mode = mode;
}

abbrev pub dbref2_of : List ℕ → Dbref2
dbref2_of l = record {
  code = text_at l (at code);
  chain = text_at l (at chain);
  accession = text_at l (at accession2);
  begin = signed_at l (at begin2);
  end = signed_at l (at end2);
}

-- a segment, read from columns that are handed over
abbrev pub got_segment : List ℕ → SegmentAt → Faults → Got Segment
got_segment l s fs = record { value = segment_of l s; faults = line_noted l (segment_table s) fs }

abbrev pub got_dbref : Given → Got Dbref
got_dbref g = record { value = dbref_of g.line; faults = table_noted g dbref_table no_faults }

abbrev pub got_dbref1 : Given → Got Dbref1
got_dbref1 g =
    let mode = g.options.mode in
    record { value = dbref1_of mode g.line; faults = table_noted g (dbref1_table mode) no_faults }

abbrev pub got_dbref2 : Given → Got Dbref2
got_dbref2 g = record { value = dbref2_of g.line; faults = table_noted g dbref2_table no_faults }

abbrev pub segment_fields : SegmentAt → Segment → List Row
segment_fields s v =
    s.begin.start is Signed v.begin
    ∷ s.opening is One v.opening
    ∷ s.end.start is Signed v.end
    ∷ s.closing is One v.closing
    ∷ []

abbrev pub dbref_fields : Dbref → List Row
dbref_fields v =
    (at code).start is Words v.code
    ∷ (at chain).start is Words v.chain
    ∷ segment_fields own_segment v.segment
    ++ (at database).start is Words v.database
    ∷ (at accession).start is Words v.accession
    ∷ (at name).start is Words v.name
    ∷ segment_fields database_segment v.target

abbrev pub dbref1_fields : Dbref1 → List Row
dbref1_fields v =
    (at code).start is Words v.code
    ∷ (at chain).start is Words v.chain
    ∷ segment_fields (segment_by v.mode) v.segment
    ++ (at database).start is Words v.database
    ∷ (at name1).start is Words v.name
    ∷ []

abbrev pub dbref2_fields : Dbref2 → List Row
dbref2_fields v =
    (at code).start is Words v.code
    ∷ (at chain).start is Words v.chain
    ∷ (at accession2).start is Words v.accession
    ∷ (at begin2).start is Signed v.begin
    ∷ (at end2).start is Signed v.end
    ∷ []
