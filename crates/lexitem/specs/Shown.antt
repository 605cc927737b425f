-- What the entries of a kind's table show of a line: "`f` with each present field's first column, ascending". A record's rows are these, by a
-- theorem, so a reader of the tables needn't read the records.
use Rattle.std.specs.Prelude.{Bool, true, cond, ◌&&◌, List, [], ◌∷◌, ◌++◌, get_or, ltb, eqb}
use Rattle.line.specs.Given.{Given}
use Rattle.field.specs.Number.{unsigned_at, signed_at, real_at, places_at, factor_at, unsigned_from}
use Rattle.field.specs.Text.{text_at, text_within, text_from, end_text_from, character_at, optional_at}
use Rattle.field.specs.Charge.{charge_at}
use Rattle.field.specs.Table.{Entry}
use Rattle.field.specs.Table.Entry.{u, i, r, t, c, c?, a, u-rest, x, t_within, t-rest, t-end, charge, known, given, unwritten, triples}
use Rattle.header.specs.Header.{standing}
use Rattle.seqres.specs.Seqres.{triples_from, triple_rows}
use Rattle.row.specs.Rows.{◌is◌}
use Rattle.row.specs.declared.Row.{Row}
use Rattle.row.specs.declared.Value.{Value}
use Rattle.row.specs.declared.Value.TheVariants.{Unsigned, Signed, Real, Factor, Words, One, Flag, Nothing}

-- a look into the remark table shows nothing; a number that isn't written is CRYST1's Z, and 1
abbrev pub shown_by : Given → Entry → List Row
shown_by g (u at) = at.start is Unsigned (unsigned_at g.line at) ∷ []
shown_by g (i at) = at.start is Signed (signed_at g.line at) ∷ []
shown_by g (r at default) =
    at.start is Real (real_at g.options.exponents g.line at default) (places_at g.options.exponents g.line at) ∷ []
shown_by g (t at) = at.start is Words (text_at g.line at) ∷ []
shown_by g (c at) = at.start is One (character_at g.line at.start) ∷ []
shown_by g (c? at) = at.start is One (optional_at g.line at.start) ∷ []
shown_by g (a at) = at.start is Factor (factor_at g.line at) ∷ []
shown_by g (u-rest start) = start is Unsigned (unsigned_from g.line start) ∷ []
shown_by g (x at) = at.start is Words (standing at) ∷ []
shown_by g (t_within at) = at.start is Words (text_within g.line at) ∷ []
shown_by g (t-rest start) = start is Words (text_from g.line start) ∷ []
shown_by g (t-end start) = start is Words (end_text_from g.line start) ∷ []
shown_by g (charge at) = at.start is Signed (charge_at g.line at) ∷ []
shown_by g (known at) = []
shown_by g (given column) = column is Flag (eqb (get_or g.line column 0) 49) ∷ []
shown_by g (unwritten column) = column is Unsigned 1 ∷ []
shown_by g (triples start) = triple_rows 13 0 (triples_from 13 start g.line)

abbrev pub shown : Given → List Entry → List Row
shown g [] = []
shown g (e ∷ rest) = shown_by g e ++ shown g rest

-- in ascending columns
abbrev pub insert : Row → List Row → List Row
insert row [] = row ∷ []
insert row (y ∷ rest) = cond (ltb y.0 row.0) (y ∷ insert row rest) (row ∷ y ∷ rest)

abbrev pub sorted : List Row → List Row
sorted [] = []
sorted (row ∷ rest) = insert row (sorted rest)

abbrev pub ascending : List Row → Bool
ascending [] = true
ascending (row ∷ []) = true
ascending (row ∷ next ∷ rest) = ltb row.0 next.0 && ascending (next ∷ rest)

-- the rows that show something
abbrev pub keep : Value → Row → List Row → List Row
keep (Unsigned n) row rest = row ∷ rest
keep (Signed n) row rest = row ∷ rest
keep (Real y places) row rest = row ∷ rest
keep (Factor y) row rest = row ∷ rest
keep (Words text) row rest = row ∷ rest
keep (One character) row rest = row ∷ rest
keep (Flag b) row rest = row ∷ rest
keep Nothing row rest = rest

abbrev pub held : List Row → List Row
held [] = []
held (row ∷ rest) = keep row.1 row (held rest)
