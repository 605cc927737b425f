-- A definition that gave every column to some field would pass every other law of this crate: the columns that `given_to` leaves free, in each kind
-- and mode, are exactly those of `free`, at every column from the seventh on.
--     takes-beyond      behind its last column a field takes nothing, or everything if it ends with the line
--     given-beyond      so what is given of column 80 is given of all behind it, in every kind
--     free_exactly      a column is given to a field of a kind exactly where `free` doesn't have it
-- Assumes nothing.
use Prim.Native.Nat.{ℕ, zero, suc, ◌+◌, ◌<◌, ◌≤◌}
use mathlib.Core.Path.{◌≡◌, refl, sym, ap, ◌∙◌, subst}
use mathlib.Core.Bool.{Bool, true, false, not, ◌&&◌}
use mathlib.Core.List.{List, [], ◌∷◌}
use native.Mathlib.Omega.{arith}
use borrow.Author.Tests.{le-leb, leb-true, le-ltb, ltb-true, ltb-false, eqb-true, eqb-false, ne_eqb}
use lib.Dec.{T, ltb, leb, eqb}
use lib.Ieee.Bits.{is_true}
use lib.Ieee.Fits.{and_l, and_r}
use Rattle.field.specs.Table.{Entry}
use Rattle.field.specs.Table.Entry.{u, i, r, t, c, c?, a, u-rest, x, t_within, t-rest, t-end, charge, known, given, unwritten, triples}
use Rattle.kind.specs.declared.Kind.{Kind}
use Rattle.kind.specs.declared.Kind.TheVariants.{Empty, Header, Remark, Atom, Hetatm, Anisou, Cryst1, Scale, Origx, Mtrix, Model, Master, Dbref, Dbref1, Dbref2, Seqres, Seqadv, Modres, Ssbond, Endmdl, Ter, End}
use Rattle.lexitem.specs.Describe.{table_of}
use Rattle.lexitem.proofs.Laws.Kinds.{by_table}
use Rattle.line.specs.Columns.{◌⋯◌}
use Rattle.line.specs.declared.columns.Columns.{Columns}
use Rattle.line.specs.declared.options.Mode.{Mode}
use Rattle.line.specs.declared.options.Mode.TheVariants.{Crate, WwPdb}
use Rattle.seqadv.specs.Seqadv as seqadv
use Rattle.margins.specs.Taken.{inside, triples_width, takes, table_takes, decides, given_to}
use Rattle.margins.specs.Free.{Stretch, free, covers, covered}
use Rattle.margins.specs.Free.Stretch.{one, to, from}

-- ---- behind the last column of a field
outside : (at : Columns) (column : ℕ) → at.end ≤ column → inside at column ≡ false
unfolding inside
outside at column h = rw (le-ltb column at.end h) (none (leb at.start column))
  where
    none : (b : Bool) → b && false ≡ false
    none true = refl
    none false = refl

-- the column behind a field's last, or the first of one that ends with the line
abbrev ended : Entry → ℕ
ended (u at) = at.end
ended (i at) = at.end
ended (r at default) = at.end
ended (t at) = at.end
ended (c at) = suc at.start
ended (c? at) = suc at.start
ended (a at) = at.end
ended (u-rest start) = start
ended (x at) = at.end
ended (t_within at) = at.end
ended (t-rest start) = start
ended (t-end start) = start
ended (charge at) = at.end
ended (known at) = at.end
ended (given at) = suc at
ended (unwritten at) = 0
ended (triples start) = start + triples_width

-- two columns behind it are both taken, or neither
takes-beyond : (e : Entry) (p q : ℕ) → ended e ≤ p → ended e ≤ q → takes e p ≡ takes e q
takes-beyond (u at) p q f g = outside at p f ∙ sym (outside at q g)
takes-beyond (i at) p q f g = outside at p f ∙ sym (outside at q g)
takes-beyond (r at default) p q f g = outside at p f ∙ sym (outside at q g)
takes-beyond (t at) p q f g = outside at p f ∙ sym (outside at q g)
takes-beyond (c at) p q f g = ne_eqb p at.start (λ e. omega arith) ∙ sym (ne_eqb q at.start (λ e. omega arith))
takes-beyond (c? at) p q f g = ne_eqb p at.start (λ e. omega arith) ∙ sym (ne_eqb q at.start (λ e. omega arith))
takes-beyond (a at) p q f g = outside at p f ∙ sym (outside at q g)
takes-beyond (u-rest start) p q f g = le-leb start p f ∙ sym (le-leb start q g)
takes-beyond (x at) p q f g = outside at p f ∙ sym (outside at q g)
takes-beyond (t_within at) p q f g = outside at p f ∙ sym (outside at q g)
takes-beyond (t-rest start) p q f g = le-leb start p f ∙ sym (le-leb start q g)
takes-beyond (t-end start) p q f g = le-leb start p f ∙ sym (le-leb start q g)
takes-beyond (charge at) p q f g = outside at p f ∙ sym (outside at q g)
takes-beyond (known at) p q f g = outside at p f ∙ sym (outside at q g)
takes-beyond (given at) p q f g = ne_eqb p at (λ e. omega arith) ∙ sym (ne_eqb q at (λ e. omega arith))
takes-beyond (unwritten at) p q f g = refl
takes-beyond (triples start) p q f g =
    outside (start ⋯ (start + triples_width)) p f ∙ sym (outside (start ⋯ (start + triples_width)) q g)

-- ---- of a kind: every table has ended by column 80
abbrev ends_by80 : List Entry → Bool
ends_by80 [] = true
ends_by80 (e ∷ es) = leb (ended e) 80 && ends_by80 es

module _ (column : ℕ) (h : 80 ≤ column) where
  table-beyond : (es : List Entry) → T (ends_by80 es) → table_takes es column ≡ table_takes es 80
  table-beyond [] p = refl
  table-beyond (e ∷ es) p =
      let n = leb-true (ended e) 80 (is_true (leb (ended e) 80) (and_l (leb (ended e) 80) (ends_by80 es) p)) in
      rw (
        takes-beyond e column 80 (omega arith) n,
        table-beyond es (and_r (leb (ended e) 80) (ends_by80 es) p),
      )
      refl

  decides-beyond : (k : Kind) → decides k column ≡ decides k 80
  decides-beyond Seqadv =
      let at = seqadv.at seqadv.Field.target in outside at column (omega arith) ∙ sym (outside at 80 (omega arith))
  decides-beyond Empty = refl
  decides-beyond Header = refl
  decides-beyond Remark = refl
  decides-beyond Atom = refl
  decides-beyond Hetatm = refl
  decides-beyond Anisou = refl
  decides-beyond Cryst1 = refl
  decides-beyond (Scale row) = refl
  decides-beyond (Origx row) = refl
  decides-beyond (Mtrix row) = refl
  decides-beyond Model = refl
  decides-beyond Master = refl
  decides-beyond Dbref = refl
  decides-beyond Dbref1 = refl
  decides-beyond Dbref2 = refl
  decides-beyond Seqres = refl
  decides-beyond Modres = refl
  decides-beyond Ssbond = refl
  decides-beyond Endmdl = refl
  decides-beyond Ter = refl
  decides-beyond End = refl

  pub given-beyond : (mode : Mode) (k : Kind) → given_to mode k column ≡ given_to mode k 80
  given-beyond mode k =
      rw (
        decides-beyond k,
        table-beyond (table_of mode k true) (by_table ends_by80 tt mode k true),
        table-beyond (table_of mode k false) (by_table ends_by80 tt mode k false),
      )
      refl

-- ---- of the stretches
abbrev stretch_end : Stretch → ℕ
stretch_end (one at) = suc at
stretch_end (to at) = at.end
stretch_end (from start) = start

covers-beyond : (s : Stretch) (p q : ℕ) → stretch_end s ≤ p → stretch_end s ≤ q → covers s p ≡ covers s q
covers-beyond (one at) p q f g = ne_eqb p at (λ e. omega arith) ∙ sym (ne_eqb q at (λ e. omega arith))
covers-beyond (to at) p q f g = outside at p f ∙ sym (outside at q g)
covers-beyond (from start) p q f g = le-leb start p f ∙ sym (le-leb start q g)

abbrev end_by80 : List Stretch → Bool
end_by80 [] = true
end_by80 (s ∷ rest) = leb (stretch_end s) 80 && end_by80 rest

covered-beyond : (column : ℕ) → 80 ≤ column → (ss : List Stretch) → T (end_by80 ss) → covered ss column ≡ covered ss 80
covered-beyond column h [] p = refl
covered-beyond column h (s ∷ rest) p =
    let n = leb-true (stretch_end s) 80 (is_true (leb (stretch_end s) 80) (and_l (leb (stretch_end s) 80) (end_by80 rest) p)) in
    rw (
      covers-beyond s column 80 (omega arith) n,
      covered-beyond column h rest (and_r (leb (stretch_end s) 80) (end_by80 rest) p),
    )
    refl

-- ---- the columns from 6 to 80, by computing
abbrev differ : Bool → Bool → Bool
differ true b = not b
differ false b = b

opposite : (p q : Bool) → T (differ p q) → p ≡ not q
opposite true true e = absurd e
opposite true false e = refl
opposite false true e = refl
opposite false false e = absurd e

-- a test of n numbers, from one on
abbrev each : (ℕ → Bool) → ℕ → ℕ → Bool
each test zero start = true
each test (suc n) start = test start && each test n (suc start)

each_at : (test : ℕ → Bool) (n start : ℕ) → T (each test n start) → (column : ℕ) → start ≤ column → column < start + n → T (test column)
each_at test zero start e column p q = absurd (omega arith)
each_at test (suc n) start e column p q =
    go (eqb start column) refl (λ r. each_at test n (suc start) (and_r (test start) (each test n (suc start)) e) column r (omega arith))
  where
    go : (b : Bool) → eqb start column ≡ b → (suc start ≤ column → T (test column)) → T (test column)
    go true f rest = subst (λ (j : ℕ). T (test j)) (eqb-true start column f) (and_l (test start) (each test n (suc start)) e)
    go false f rest = let z = eqb-false start column f in rest (omega arith)

abbrev is_free : Mode → Kind → ℕ → Bool
is_free mode k column = differ (given_to mode k column) (covered (free k mode) column)

abbrev listed : Mode → Kind → Bool
listed mode k = end_by80 (free k mode) && each (is_free mode k) 75 6

all_listed : (mode : Mode) (k : Kind) → T (listed mode k)
unfolding inside
all_listed mode Empty = tt
all_listed mode Header = tt
all_listed mode Remark = tt
all_listed mode Atom = tt
all_listed mode Hetatm = tt
all_listed mode Anisou = tt
all_listed mode Cryst1 = tt
all_listed mode (Scale row) = tt
all_listed mode (Origx row) = tt
all_listed mode (Mtrix row) = tt
all_listed Crate Model = tt
all_listed WwPdb Model = tt
all_listed mode Master = tt
all_listed mode Dbref = tt
all_listed Crate Dbref1 = tt
all_listed WwPdb Dbref1 = tt
all_listed mode Dbref2 = tt
all_listed mode Seqres = tt
all_listed mode Seqadv = tt
all_listed mode Modres = tt
all_listed mode Ssbond = tt
all_listed mode Endmdl = tt
all_listed mode Ter = tt
all_listed mode End = tt

pub free_exactly : (mode : Mode) (k : Kind) (column : ℕ) → 6 ≤ column → given_to mode k column ≡ not (covered (free k mode) column)
free_exactly mode k column h = go (ltb column 81) refl
  where
    ends : Bool
    ends = end_by80 (free k mode)

    by_computing : Bool
    by_computing = each (is_free mode k) 75 6

    at : (j : ℕ) → 6 ≤ j → j < 81 → given_to mode k j ≡ not (covered (free k mode) j)
    at j p q =
        opposite (given_to mode k j) (covered (free k mode) j) (each_at (is_free mode k) 75 6 (and_r ends by_computing (all_listed mode k)) j p (omega arith))

    go : (b : Bool) → ltb column 81 ≡ b → given_to mode k column ≡ not (covered (free k mode) column)
    go true e = at column h (ltb-true column 81 e)
    go false e =
        let far : 80 ≤ column = let z = ltb-false column 81 e in omega arith in
        given-beyond column far mode k
        ∙ at 80 (omega arith) (omega arith)
        ∙ sym (ap not (covered-beyond column far (free k mode) (and_l ends by_computing (all_listed mode k))))
