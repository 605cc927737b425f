-- "Into a lent output goes the line with each byte of 128 or more made `?`, and padded with blanks to 80 if shorter, but only if no field of 01's
-- table (the charge included) starts before the line's end and stops after it: a cut number must not pass for a whole one. Other kinds get the
-- first mend only." What is cut is computed from the table that the atoms' reader is proved by.
use Rattle.std.specs.Prelude.{ℕ, ◌-◌, Bool, false, cond, not, ◌&&◌, ◌||◌, Option, None, List, [], ◌∷◌, ◌++◌, map, length, replicate, ltb, eqb}
use Rattle.std.specs.List.{find}
use Rattle.atom.specs.Atom.{atom_table}
use Rattle.field.specs.Table.{Entry}
use Rattle.field.specs.Table.Entry.{u, i, r, t, c, c?, a, u-rest, x, t_within, t-rest, t-end, charge, known, given, unwritten, triples}
use Rattle.kind.specs.Kind.{kind_of, number_of}
use Rattle.kind.specs.declared.Kind.{Kind}
use Rattle.kind.specs.declared.Kind.TheVariants.{Atom, Hetatm}
use Rattle.line.specs.Columns.{◌⋯◌, only}
use Rattle.line.specs.declared.columns.Columns.{Columns}
use Rattle.line.specs.declared.options.Mode.TheVariants.{Crate}

-- ---- bytes
unfoldable pub mended_byte : ℕ → ℕ
mended_byte b = cond (ltb b 128) b 63

unfoldable pub questioned : List ℕ → List ℕ
questioned [] = []
questioned (b ∷ rest) = mended_byte b ∷ questioned rest

-- ---- what is cut
-- columns start before the end of a line of n bytes and stop after it
abbrev pub cut : Columns → ℕ → Bool
cut at n = ltb at.start n && ltb n at.end

-- no columns, which nothing cuts
abbrev pub no_columns : Columns
no_columns = 0 ⋯ 0

-- the columns of a field; what ends with the line, wherever that is, has none that its end could cut
abbrev pub columns_of : Entry → Columns
columns_of (u at) = at
columns_of (i at) = at
columns_of (r at default) = at
columns_of (t at) = at
columns_of (c at) = at
columns_of (c? at) = at
columns_of (a at) = at
columns_of (x at) = at
columns_of (charge at) = at
columns_of (known at) = at
columns_of (given column) = only column
columns_of (u-rest start) = no_columns
columns_of (t_within at) = no_columns
columns_of (t-rest start) = no_columns
columns_of (t-end start) = no_columns
columns_of (unwritten column) = no_columns
columns_of (triples start) = no_columns

-- a field of a table is cut
abbrev pub cut_in : List Entry → ℕ → Bool
cut_in [] n = false
cut_in (e ∷ rest) n = cut (columns_of e) n || cut_in rest n

-- ---- the line
-- ATOM and HETATM are padded
abbrev pub is_atom : Kind → Bool
is_atom k = eqb (number_of k) (number_of Atom) || eqb (number_of k) (number_of Hetatm)

-- a line's kind, bytes of 128 or more notwithstanding
abbrev pub is_atom_line : List ℕ → Bool
is_atom_line l = is_atom (kind_of false Crate l)

-- how many blanks are put behind the line
unfoldable pub padding : List ℕ → ℕ
padding l = cond (is_atom_line l && not (cut_in atom_table (length l))) (80 - length l) 0

unfoldable pub mended : List ℕ → List ℕ
mended l = questioned l ++ replicate (padding l) 32

-- ---- which field is cut
-- the first field of ATOM's table that the end of a line of n bytes cuts
unfoldable pub cut_field : ℕ → Option Columns
cut_field n = find (λ (at : Columns). cut at n) (map columns_of atom_table)

-- why an ATOM or HETATM is left as short as it is
unfoldable pub left_cut : List ℕ → Option Columns
left_cut l = cond (is_atom_line l) (cut_field (length l)) None
