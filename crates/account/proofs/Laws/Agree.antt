-- The table of names agrees with the kinds' tables.
--     default                        what an entry's field is where it wasn't read
--     agrees, all_agree               it is called what the table of names says of the field's columns
--     kind-agrees, either-part       so it is for every kind that a line can have
-- Assumes nothing.
use Prim.Native.Nat.{ℕ, ◌+◌, ◌-◌}
use mathlib.Core.Bool.{Bool, true, false, cond, ◌&&◌}
use mathlib.Core.List.{List, [], ◌∷◌}
use lib.Dec.{T, leb, ltb}
use lib.Ieee.Fits.{and_l, and_r}
use lib.IntN.{pos}
use lib.ListN.{length, take}
use Rattle.field.specs.Number.{zero_real}
use Rattle.field.specs.Table.{Entry}
use Rattle.field.specs.Table.Entry.{u, i, r, t, c, c?, a, u-rest, x, t_within, t-rest, t-end, charge, known, given, unwritten, triples}
use Rattle.kind.specs.Kind.{Named, names, short_names, same, kind_by, kind_of, row_place}
use Rattle.kind.specs.declared.Kind.{Kind}
use Rattle.kind.specs.declared.Kind.TheVariants.{Empty}
use Rattle.lexitem.specs.Describe.{table_of}
use Rattle.line.specs.declared.options.Mode.TheVariants.{Crate}
use Rattle.line.specs.declared.text.Character.TheVariants.{Unreached, Absent}
use Rattle.names.specs.Names.{fields, default_text}
use Rattle.page.specs.Numerals.{decimal, decimal_before, signed_decimal}
use Rattle.row.specs.declared.Value.{Value}
use Rattle.row.specs.declared.Value.TheVariants as value
use Rattle.account.specs.Rows.{is_of, called}

-- ---- what an entry's field is where it wasn't read
abbrev pub default : Entry → Value
default (u at) = value.Unsigned 0
default (i at) = value.Signed (pos 0)
default (r at y) = value.Real y 0
default (t at) = value.Words (record { place = 0; length = 0 })
default (c at) = value.One Unreached
default (c? at) = value.One Absent
default (a at) = value.Factor zero_real
default (u-rest start) = value.Unsigned 0
default (x at) = value.Nothing
default (t_within at) = value.Nothing
default (t-rest start) = value.Nothing
default (t-end start) = value.Nothing
default (charge at) = value.Signed (pos 0)
default (known at) = value.Nothing
default (given column) = value.Nothing
default (unwritten column) = value.Nothing
default (triples start) = value.Nothing

-- the table of names agrees with it
abbrev pub agrees : Kind → Entry → Bool
agrees k (u at) = same (called (default (u at))) (default_text k at.start)
agrees k (i at) = same (called (default (i at))) (default_text k at.start)
agrees k (r at y) = same (called (default (r at y))) (default_text k at.start)
agrees k (t at) = same (called (default (t at))) (default_text k at.start)
agrees k (c at) = same (called (default (c at))) (default_text k at.start)
agrees k (c? at) = same (called (default (c? at))) (default_text k at.start)
agrees k (a at) = same (called (default (a at))) (default_text k at.start)
agrees k (u-rest start) = same (called (default (u-rest start))) (default_text k start)
agrees k (x at) = true
agrees k (t_within at) = true
agrees k (t-rest start) = true
agrees k (t-end start) = true
agrees k (charge at) =
    (same (called (default (charge at))) (default_text k at.start) && same (called (default (charge at))) (default_text k (at.start + 1)))
    && is_of at.start (at.start + 1)
agrees k (known at) = leb (at.end - at.start) 3
agrees k (given column) = true
agrees k (unwritten column) = true
agrees k (triples start) = true

abbrev pub all_agree : Kind → List Entry → Bool
all_agree k [] = true
all_agree k (e ∷ es) = agrees k e && all_agree k es

-- with the part that only some lines have, and without
abbrev pub both_agree : Kind → Bool
both_agree k = all_agree k (table_of Crate k true) && all_agree k (table_of Crate k false)

abbrev names_agree : List Named → Bool
names_agree [] = true
names_agree (n ∷ ns) = both_agree n.kind && names_agree ns

-- ---- a kind, by computing over the names that lines have
module _ (k : Kind) where
  pub either-part : T (both_agree k) → (part : Bool) → T (all_agree k (table_of Crate k part))
  either-part h true = and_l (all_agree k (table_of Crate k true)) (all_agree k (table_of Crate k false)) h
  either-part h false = and_r (all_agree k (table_of Crate k true)) (all_agree k (table_of Crate k false)) h

named-agree : (ns : List Named) → T (names_agree ns) → (text : List ℕ) → T (both_agree (kind_by text ns))
named-agree [] h text = tt
named-agree (n ∷ ns) h text =
    go (same text n.name) (and_l (both_agree n.kind) (names_agree ns) h) (named-agree ns (and_r (both_agree n.kind) (names_agree ns) h) text)
  where
    go : (b : Bool) → T (both_agree n.kind) → T (both_agree (kind_by text ns)) → T (both_agree (cond b n.kind (kind_by text ns)))
    go true p q = p
    go false p q = q

all-agree : T (names_agree names)
unfolding fields default_text decimal decimal_before signed_decimal row_place
all-agree = tt

pub kind-agrees : (l : List ℕ) → T (both_agree (kind_of false Crate l))
unfolding kind_of
kind-agrees l = go (ltb 6 (length l)) (ltb 2 (length l))
  where
    go : (b d : Bool) → T (both_agree (cond b (kind_by (take 6 l) names) (cond d (kind_by (take 3 l) short_names) Empty)))
    go true d = named-agree names all-agree (take 6 l)
    go false true = named-agree short_names tt (take 3 l)
    go false false = tt
