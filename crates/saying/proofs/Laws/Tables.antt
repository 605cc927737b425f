-- Where the tables of the kinds stand: `narrow-kind`, their columns end before column 1,024. Assumes nothing.
use Prim.Native.Nat.{◌<◌}
use mathlib.Core.Bool.{Bool, true, ◌&&◌}
use mathlib.Core.List.{List, [], ◌∷◌}
use lib.Dec.{T, ltb, ltb→lt}
use lib.Ieee.Fits.{and_l, and_r}
use Rattle.field.specs.Table.{Entry}
use Rattle.field.specs.Table.Entry.{u, i, r, t, c, c?, a, u-rest, x, t_within, t-rest, t-end, charge, known, given, unwritten, triples}
use Rattle.kind.specs.declared.Kind.{Kind}
use Rattle.lexitem.proofs.Laws.Kinds.{by_table}
use Rattle.lexitem.specs.Describe.{describe, fields_by}
use Rattle.line.specs.Columns.{◌⋯◌}
use Rattle.line.specs.Given.{Given}
use Rattle.line.specs.declared.columns.Columns.{Columns}
use Rattle.saying.proofs.Laws.Pairs.{All}

-- an entry's columns, or where it begins
abbrev columns_of : Entry → Columns
columns_of (u at) = at
columns_of (i at) = at
columns_of (r at default) = at
columns_of (t at) = at
columns_of (c at) = at
columns_of (c? at) = at
columns_of (a at) = at
columns_of (u-rest start) = start ⋯ start
columns_of (x at) = at
columns_of (t_within at) = at
columns_of (t-rest start) = start ⋯ start
columns_of (t-end start) = start ⋯ start
columns_of (charge at) = at
columns_of (known at) = at
columns_of (given column) = column ⋯ column
columns_of (unwritten column) = column ⋯ column
columns_of (triples start) = start ⋯ start

abbrev pub Narrow : Entry → Type 0
Narrow e = ((columns_of e).start < 1024) × ((columns_of e).end < 1024)

abbrev narrow : Entry → Bool
narrow e = ltb (columns_of e).start 1024 && ltb (columns_of e).end 1024

abbrev all_narrow : List Entry → Bool
all_narrow [] = true
all_narrow (e ∷ es) = narrow e && all_narrow es

are_narrow : (es : List Entry) → T (all_narrow es) → All Narrow es
are_narrow [] h = tt
are_narrow (e ∷ es) h =
    let s = (columns_of e).start in
    let n = (columns_of e).end in
    let this = and_l (narrow e) (all_narrow es) h in
    ((ltb→lt s 1024 (and_l (ltb s 1024) (ltb n 1024) this), ltb→lt n 1024 (and_r (ltb s 1024) (ltb n 1024) this)), are_narrow es (and_r (narrow e) (all_narrow es) h))

pub narrow-kind : (k : Kind) (g : Given) → All Narrow (fields_by k g)
narrow-kind k g = are_narrow (fields_by k g) (by_table all_narrow tt g.options.mode k ((describe k).part g.line))
