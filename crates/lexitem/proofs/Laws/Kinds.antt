-- What goes kind by kind, all of it by computing.
--     each_table, by_table     a test that every kind's table passes in both modes, with its part and without, is passed by any kind's
--     Shows, fields-shown     a record's rows are what its kind's table shows, in ascending columns, none forgotten and none added
--     rows_sixteen            a record has no more than sixteen rows
--     no-atom                 a record but the one that a `match` names is no atom
--     asks_nothing            a kind but the six that a `match` names asks nothing of its line
-- Assumes nothing.
use Prim.Native.Nat.{ℕ, suc, ◌≤◌, ◌<◌}
use mathlib.Core.Path.{◌≡◌, refl}
use mathlib.Core.Bool.{Bool, true, false, ◌&&◌}
use mathlib.Core.List.{List, [], ◌∷◌}
use native.Mathlib.Nat.{le_of_suc-le-suc}
use native.Mathlib.Omega.{arith}
use lib.ListN.{length}
use lib.Dec.{T, lit≤, lit<}
use lib.Ieee.Fits.{and_l, and_r}
use types.Run.{OneOf, miss}
use denote.Enum.Declared.{tag_of}
use Rattle.field.specs.Table.{Entry}
use Rattle.line.specs.Given.{Given}
use Rattle.line.specs.declared.options.Mode.{Mode}
use Rattle.line.specs.declared.options.Mode.TheVariants.{Crate, WwPdb}
use Rattle.crystal.specs.Crystal.{has_z, crystal_table, cell_of, cell_places_of, z_of, crystal_fields}
use Rattle.crystal.specs.Crystal as crystal
use Rattle.dbref.specs.Dbref.{dbref1_table, dbref1_of, dbref1_fields}
use Rattle.field.specs.Text.{text_within}
use Rattle.model.specs.Model.{model_table, model_of, model_fields}
use Rattle.seqadv.specs.Seqadv.{has_target, seqadv_table, seqadv_of, target_of, seqadv_fields}
use Rattle.seqres.specs.Seqres.{triple_row}
use Rattle.ssbond.specs.Ssbond.{has_tail, ssbond_table, ssbond_of, tail_of, ssbond_fields}
use Rattle.kind.specs.declared.Kind.{Kind}
use Rattle.kind.specs.declared.Kind.TheVariants.{Empty, Header, Remark, Atom, Hetatm, Anisou, Cryst1, Scale, Origx, Mtrix, Model, Master, Dbref, Dbref1, Dbref2, Seqres, Seqadv, Modres, Ssbond, Endmdl, Ter, End}
use Rattle.lexitem.specs.Describe.{bound_of, table_of, fields_by, item_of, fields_of, atom_in}
use Rattle.lexitem.specs.Shown.{shown, sorted, ascending, held}
use Rattle.kind.specs.contracts.Kind.{the_type as kind-type}
use Rattle.lexitem.specs.contracts.item.LexItem.{the_type as item-type}
use Rattle.lexitem.specs.declared.bound.Bound.TheVariants as bound
use Rattle.lexitem.specs.declared.item.LexItem.{LexItem}
use Rattle.lexitem.specs.declared.item.LexItem.TheVariants as item
use Rattle.row.specs.declared.Row.{Row}

-- ---- the tables; those of a transformation don't go by the row
abbrev kinds : List Kind
kinds =
    Empty
    ∷ Header
    ∷ Remark
    ∷ Atom
    ∷ Hetatm
    ∷ Anisou
    ∷ Cryst1
    ∷ (Scale 0)
    ∷ (Origx 0)
    ∷ (Mtrix 0)
    ∷ Model
    ∷ Master
    ∷ Dbref
    ∷ Dbref1
    ∷ Dbref2
    ∷ Seqres
    ∷ Seqadv
    ∷ Modres
    ∷ Ssbond
    ∷ Endmdl
    ∷ Ter
    ∷ End
    ∷ []

abbrev table_passes : (List Entry → Bool) → Mode → Kind → Bool
table_passes test mode k = test (table_of mode k true) && test (table_of mode k false)

abbrev all_pass : (List Entry → Bool) → Mode → List Kind → Bool
all_pass test mode [] = true
all_pass test mode (k ∷ ks) = table_passes test mode k && all_pass test mode ks

abbrev pub each_table : (List Entry → Bool) → Bool
each_table test = all_pass test Crate kinds && all_pass test WwPdb kinds

abbrev kind_at : ℕ → List Kind → Kind
kind_at place [] = Empty
kind_at ℕ.zero (k ∷ ks) = k
kind_at (suc place) (k ∷ ks) = kind_at place ks

module _ (test : List Entry → Bool) (mode : Mode) where
  either-part : (k : Kind) → T (table_passes test mode k) → (part : Bool) → T (test (table_of mode k part))
  either-part k h true = and_l (test (table_of mode k true)) (test (table_of mode k false)) h
  either-part k h false = and_r (test (table_of mode k true)) (test (table_of mode k false)) h

  passes_at : (ks : List Kind) → T (all_pass test mode ks) → (place : ℕ) → place < length ks → (part : Bool)
      → T (test (table_of mode (kind_at place ks) part))
  passes_at [] h place p part = absurd (omega arith)
  passes_at (k ∷ ks) h ℕ.zero p part = either-part k (and_l (table_passes test mode k) (all_pass test mode ks) h) part
  passes_at (k ∷ ks) h (suc place) p part = passes_at ks (and_r (table_passes test mode k) (all_pass test mode ks) h) place (le_of_suc-le-suc p) part

  in_mode_lem : T (all_pass test mode kinds) → (k : Kind) (part : Bool) → T (test (table_of mode k part))
  in_mode_lem h Empty part = passes_at kinds h 0 (lit< tt) part
  in_mode_lem h Header part = passes_at kinds h 1 (lit< tt) part
  in_mode_lem h Remark part = passes_at kinds h 2 (lit< tt) part
  in_mode_lem h Atom part = passes_at kinds h 3 (lit< tt) part
  in_mode_lem h Hetatm part = passes_at kinds h 4 (lit< tt) part
  in_mode_lem h Anisou part = passes_at kinds h 5 (lit< tt) part
  in_mode_lem h Cryst1 part = passes_at kinds h 6 (lit< tt) part
  in_mode_lem h (Scale row) part = passes_at kinds h 7 (lit< tt) part
  in_mode_lem h (Origx row) part = passes_at kinds h 8 (lit< tt) part
  in_mode_lem h (Mtrix row) part = passes_at kinds h 9 (lit< tt) part
  in_mode_lem h Model part = passes_at kinds h 10 (lit< tt) part
  in_mode_lem h Master part = passes_at kinds h 11 (lit< tt) part
  in_mode_lem h Dbref part = passes_at kinds h 12 (lit< tt) part
  in_mode_lem h Dbref1 part = passes_at kinds h 13 (lit< tt) part
  in_mode_lem h Dbref2 part = passes_at kinds h 14 (lit< tt) part
  in_mode_lem h Seqres part = passes_at kinds h 15 (lit< tt) part
  in_mode_lem h Seqadv part = passes_at kinds h 16 (lit< tt) part
  in_mode_lem h Modres part = passes_at kinds h 17 (lit< tt) part
  in_mode_lem h Ssbond part = passes_at kinds h 18 (lit< tt) part
  in_mode_lem h Endmdl part = passes_at kinds h 19 (lit< tt) part
  in_mode_lem h Ter part = passes_at kinds h 20 (lit< tt) part
  in_mode_lem h End part = passes_at kinds h 21 (lit< tt) part

module _ (test : List Entry → Bool) (h : T (each_table test)) where
  pub by_table : (mode : Mode) (k : Kind) (part : Bool) → T (test (table_of mode k part))
  by_table Crate = in_mode_lem test Crate (and_l (all_pass test Crate kinds) (all_pass test WwPdb kinds) h)
  by_table WwPdb = in_mode_lem test WwPdb (and_r (all_pass test Crate kinds) (all_pass test WwPdb kinds) h)

-- ---- the rows
abbrev pub Shows : Given → List Entry → List Row → Type 0
Shows g table rows = (held (sorted (shown g table)) ≡ held rows) × (ascending rows ≡ true)

module _ (g : Given) where
  abbrev l : List ℕ
  l = g.line

  abbrev on : Bool
  on = g.options.exponents

  crystal-shown : (b : Bool)
      → Shows g (crystal_table b)
      (crystal_fields
      (record {
        cell = cell_of on l;
        places = cell_places_of on l;
        spacegroup = text_within l (crystal.at crystal.Field.spacegroup);
        z = z_of b l;
      }))
  crystal-shown true = (refl, refl)
  crystal-shown false = (refl, refl)

  seqadv-shown : (b : Bool) → (let s = seqadv_of l in
      Shows g (seqadv_table b)
      (seqadv_fields
      (record {
        code = s.code;
        residue = s.residue;
        chain = s.chain;
        number = s.number;
        insertion = s.insertion;
        database = s.database;
        accession = s.accession;
        target = target_of b l;
        comment = s.comment;
      })))
  seqadv-shown true = (refl, refl)
  seqadv-shown false = (refl, refl)

  ssbond-shown : (b : Bool)
      → Shows g (ssbond_table b)
      (ssbond_fields (record { first = (ssbond_of on l).first; second = (ssbond_of on l).second; tail = tail_of b on l }))
  ssbond-shown true = (refl, refl)
  ssbond-shown false = (refl, refl)

  model-shown : (mode : Mode) → Shows g (model_table mode) (model_fields (model_of mode l))
  model-shown Crate = (refl, refl)
  model-shown WwPdb = (refl, refl)

  dbref1-shown : (mode : Mode) → Shows g (dbref1_table mode) (dbref1_fields (dbref1_of mode l))
  dbref1-shown Crate = (refl, refl)
  dbref1-shown WwPdb = (refl, refl)

  pub fields-shown : (k : Kind) → Shows g (fields_by k g) (fields_of (item_of k g))
  unfolding triple_row
  fields-shown Empty = (refl, refl)
  fields-shown Header = (refl, refl)
  fields-shown Remark = (refl, refl)
  fields-shown Atom = (refl, refl)
  fields-shown Hetatm = (refl, refl)
  fields-shown Anisou = (refl, refl)
  fields-shown Cryst1 = crystal-shown (has_z l)
  fields-shown (Scale row) = (refl, refl)
  fields-shown (Origx row) = (refl, refl)
  fields-shown (Mtrix row) = (refl, refl)
  fields-shown Model = model-shown g.options.mode
  fields-shown Master = (refl, refl)
  fields-shown Dbref = (refl, refl)
  fields-shown Dbref1 = dbref1-shown g.options.mode
  fields-shown Dbref2 = (refl, refl)
  fields-shown Seqres = (refl, refl)
  fields-shown Seqadv = seqadv-shown (has_target l)
  fields-shown Modres = (refl, refl)
  fields-shown Ssbond = ssbond-shown (has_tail l)
  fields-shown Endmdl = (refl, refl)
  fields-shown Ter = (refl, refl)
  fields-shown End = (refl, refl)

pub rows_sixteen : (x : LexItem) → length (fields_of x) ≤ 16
rows_sixteen item.Empty = lit≤ tt
rows_sixteen (item.Header v) = lit≤ tt
rows_sixteen (item.Remark v) = lit≤ tt
rows_sixteen (item.Atom v) = lit≤ tt
rows_sixteen (item.Anisou v) = lit≤ tt
rows_sixteen (item.Crystal v) = lit≤ tt
rows_sixteen (item.Scale v) = lit≤ tt
rows_sixteen (item.OrigX v) = lit≤ tt
rows_sixteen (item.MtriX v) = lit≤ tt
rows_sixteen (item.Model v) = lit≤ tt
rows_sixteen (item.Master v) = lit≤ tt
rows_sixteen (item.Seqres v) = lit≤ tt
rows_sixteen (item.Dbref v) = lit≤ tt
rows_sixteen (item.Dbref1 v) = lit≤ tt
rows_sixteen (item.Dbref2 v) = lit≤ tt
rows_sixteen (item.Seqadv v) = lit≤ tt
rows_sixteen (item.Modres v) = lit≤ tt
rows_sixteen (item.SSBond v) = lit≤ tt
rows_sixteen item.EndModel = lit≤ tt
rows_sixteen item.Ter = lit≤ tt
rows_sixteen item.End = lit≤ tt

-- ---- what is left to the last arm of a `match`
-- the places of the kinds that ask nothing of their line
abbrev unasked : List ℕ
unasked = 0 ∷ 3 ∷ 4 ∷ 5 ∷ 7 ∷ 8 ∷ 9 ∷ 10 ∷ 11 ∷ 12 ∷ 13 ∷ 14 ∷ 15 ∷ 19 ∷ 20 ∷ 21 ∷ []

pub asks_nothing : (k : Kind) → OneOf unasked (tag_of kind-type k) → bound.Free ≡ bound_of k
asks_nothing Empty h = refl
asks_nothing Header h = absurd (miss unasked 1 tt h)
asks_nothing Remark h = absurd (miss unasked 2 tt h)
asks_nothing Atom h = refl
asks_nothing Hetatm h = refl
asks_nothing Anisou h = refl
asks_nothing Cryst1 h = absurd (miss unasked 6 tt h)
asks_nothing (Scale row) h = refl
asks_nothing (Origx row) h = refl
asks_nothing (Mtrix row) h = refl
asks_nothing Model h = refl
asks_nothing Master h = refl
asks_nothing Dbref h = refl
asks_nothing Dbref1 h = refl
asks_nothing Dbref2 h = refl
asks_nothing Seqres h = refl
asks_nothing Seqadv h = absurd (miss unasked 16 tt h)
asks_nothing Modres h = absurd (miss unasked 17 tt h)
asks_nothing Ssbond h = absurd (miss unasked 18 tt h)
asks_nothing Endmdl h = refl
asks_nothing Ter h = refl
asks_nothing End h = refl

-- the places of the records but an atom's
abbrev others : List ℕ
others = 0 ∷ 1 ∷ 2 ∷ 4 ∷ 5 ∷ 6 ∷ 7 ∷ 8 ∷ 9 ∷ 10 ∷ 11 ∷ 12 ∷ 13 ∷ 14 ∷ 15 ∷ 16 ∷ 17 ∷ 18 ∷ 19 ∷ 20 ∷ []

pub no-atom : (v : LexItem) → OneOf others (tag_of item-type v) → atom_in v ≡ []
no-atom item.Empty h = refl
no-atom (item.Header v) h = refl
no-atom (item.Remark v) h = refl
no-atom (item.Atom v) h = absurd (miss others 3 tt h)
no-atom (item.Anisou v) h = refl
no-atom (item.Crystal v) h = refl
no-atom (item.Scale v) h = refl
no-atom (item.OrigX v) h = refl
no-atom (item.MtriX v) h = refl
no-atom (item.Model v) h = refl
no-atom (item.Master v) h = refl
no-atom (item.Seqres v) h = refl
no-atom (item.Dbref v) h = refl
no-atom (item.Dbref1 v) h = refl
no-atom (item.Dbref2 v) h = refl
no-atom (item.Seqadv v) h = refl
no-atom (item.Modres v) h = refl
no-atom (item.SSBond v) h = refl
no-atom item.EndModel h = refl
no-atom item.Ter h = refl
no-atom item.End h = refl
