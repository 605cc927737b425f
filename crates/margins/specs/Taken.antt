-- "Columns that 01's table, as amended by mode, gives to no field of that kind. For SEQADV column 42 counts as a field's, because it helps decide
-- whether the database residue is present; SEQRES triples count through column 69." Which columns a kind's fields take is computed from the table
-- that its reader is proved by, with the part that only some lines have and without it.
use Rattle.std.specs.Prelude.{ℕ, ◌+◌, ◌*◌, ◌-◌, Bool, true, false, ◌&&◌, ◌||◌, List, [], ◌∷◌, ltb, leb, eqb}
use Rattle.field.specs.Table.{Entry}
use Rattle.field.specs.Table.Entry.{u, i, r, t, c, c?, a, u-rest, x, t_within, t-rest, t-end, charge, known, given, unwritten, triples}
use Rattle.kind.specs.declared.Kind.{Kind}
use Rattle.kind.specs.declared.Kind.TheVariants.{Empty, Header, Remark, Atom, Hetatm, Anisou, Cryst1, Scale, Origx, Mtrix, Model, Master, Dbref, Dbref1, Dbref2, Seqres, Seqadv, Modres, Ssbond, Endmdl, Ter, End}
use Rattle.lexitem.specs.Describe.{table_of}
use Rattle.line.specs.Columns.{◌⋯◌}
use Rattle.line.specs.declared.columns.Columns.{Columns}
use Rattle.line.specs.declared.options.Mode.{Mode}
use Rattle.seqadv.specs.Seqadv as seqadv

-- a column is one of a..b
unfoldable pub inside : Columns → ℕ → Bool
inside at column = leb at.start column && ltb column at.end

-- thirteen triples of three columns, and the twelve columns between them
abbrev pub triples_width : ℕ
triples_width = 4 * 13 - 1

-- a field takes a column; one that ends with the line takes all that follow
abbrev pub takes : Entry → ℕ → Bool
takes (u at) column = inside at column
takes (i at) column = inside at column
takes (r at default) column = inside at column
takes (t at) column = inside at column
takes (c at) column = eqb column at.start
takes (c? at) column = eqb column at.start
takes (a at) column = inside at column
takes (u-rest start) column = leb start column
takes (x at) column = inside at column
takes (t_within at) column = inside at column
takes (t-rest start) column = leb start column
takes (t-end start) column = leb start column
takes (charge at) column = inside at column
takes (known at) column = inside at column
takes (given at) column = eqb column at
takes (unwritten at) column = false
takes (triples start) column = inside (start ⋯ (start + triples_width)) column

abbrev pub table_takes : List Entry → ℕ → Bool
table_takes [] column = false
table_takes (e ∷ rest) column = takes e column || table_takes rest column

-- what stands in a column helps decide whether the line has the part that only some have; CRYST1's and SSBOND's go by the length
abbrev pub decides : Kind → ℕ → Bool
decides Seqadv column = inside (seqadv.at seqadv.Field.target) column
decides Empty column = false
decides Header column = false
decides Remark column = false
decides Atom column = false
decides Hetatm column = false
decides Anisou column = false
decides Cryst1 column = false
decides (Scale row) column = false
decides (Origx row) column = false
decides (Mtrix row) column = false
decides Model column = false
decides Master column = false
decides Dbref column = false
decides Dbref1 column = false
decides Dbref2 column = false
decides Seqres column = false
decides Modres column = false
decides Ssbond column = false
decides Endmdl column = false
decides Ter column = false
decides End column = false

-- a column is given to a field of a kind
abbrev pub given_to : Mode → Kind → ℕ → Bool
given_to mode k column = decides k column || (table_takes (table_of mode k true) column || table_takes (table_of mode k false) column)
