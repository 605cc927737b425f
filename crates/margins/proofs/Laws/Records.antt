-- A record holds what its table's fields hold.
--     part_decided   lines that agree on what decides it both have the part that only some have, or neither
--     item-same      a kind's record is the same where each field of its table has the same value
-- Assumes nothing.
use Prim.Native.Nat.{ℕ}
use mathlib.Core.Path.{◌≡◌, refl, sym, ap}
use mathlib.Core.Bool.{Bool, true, false}
use mathlib.Core.List.{List}
use lib.ListN.{length, get_or}
use Rattle.kind.specs.declared.Kind.{Kind}
use Rattle.kind.specs.declared.Kind.TheVariants.{Empty, Header, Remark, Atom, Hetatm, Anisou, Cryst1, Scale, Origx, Mtrix, Model, Master, Dbref, Dbref1, Dbref2, Seqres, Seqadv, Modres, Ssbond, Endmdl, Ter, End}
use Rattle.lexitem.specs.Describe.{describe, table_of, item_of}
use Rattle.lexitem.specs.declared.item.LexItem.TheVariants as item
use Rattle.line.specs.declared.options.Mode.{Mode}
use Rattle.line.specs.declared.options.Mode.TheVariants.{Crate, WwPdb}
use Rattle.line.specs.declared.options.Options.{Options}
use Rattle.crystal.specs.Crystal.{has_z, crystal_table, z_of}
use Rattle.dbref.specs.Dbref.{dbref1_table, dbref1_of}
use Rattle.model.specs.Model.{model_table, model_of}
use Rattle.seqadv.specs.Seqadv as seqadv
use Rattle.seqadv.specs.Seqadv.{has_target, seqadv_table, target_of, seqadv_of}
use Rattle.ssbond.specs.Ssbond.{has_tail, ssbond_table, tail_of}
use Rattle.margins.specs.Taken.{decides}
use Rattle.margins.proofs.Laws.Parts.{part_same}
use Rattle.margins.proofs.Laws.Entries.{on, AllSame}

module _ (l m : List ℕ) where
  pub part_decided : (k : Kind) → length l ≡ length m → ((column : ℕ) → decides k column ≡ true → get_or l column 0 ≡ get_or m column 0)
      → (describe k).part l ≡ (describe k).part m
  unfolding has_target
  part_decided Empty q h = refl
  part_decided Header q h = refl
  part_decided Remark q h = refl
  part_decided Atom q h = refl
  part_decided Hetatm q h = refl
  part_decided Anisou q h = refl
  part_decided Cryst1 q h = rw q refl
  part_decided (Scale row) q h = refl
  part_decided (Origx row) q h = refl
  part_decided (Mtrix row) q h = refl
  part_decided Model q h = refl
  part_decided Master q h = refl
  part_decided Dbref q h = refl
  part_decided Dbref1 q h = refl
  part_decided Dbref2 q h = refl
  part_decided Seqres q h = refl
  part_decided Seqadv q h = rw (part_same l m (seqadv.at seqadv.Field.target) (rw q refl) h) refl
  part_decided Modres q h = refl
  part_decided Ssbond q h = rw q refl
  part_decided Endmdl q h = refl
  part_decided Ter q h = refl
  part_decided End q h = refl

  z-same : (taken b : Bool) → AllSame l m taken (crystal_table b) → z_of b l ≡ z_of b m
  z-same taken true s = cc
  z-same taken false s = refl

  target_same : (taken b : Bool) → AllSame l m taken (seqadv_table b) → target_of b l ≡ target_of b m
  target_same taken true s = cc
  target_same taken false s = refl

  seqadv-same : (taken b : Bool) → has_target l ≡ b → has_target m ≡ b → AllSame l m taken (seqadv_table b) → seqadv_of l ≡ seqadv_of m
  seqadv-same taken true p q s = let z = target_same taken true s in cc
  seqadv-same taken false p q s = let z = target_same taken false s in cc

  tail-same : (taken b : Bool) → AllSame l m taken (ssbond_table b) → tail_of b taken l ≡ tail_of b taken m
  tail-same taken true s = cc
  tail-same taken false s = refl

  model-same : (taken : Bool) (mode : Mode) → AllSame l m taken (model_table mode) → model_of mode l ≡ model_of mode m
  model-same taken Crate s = cc
  model-same taken WwPdb s = cc

  dbref1-same : (taken : Bool) (mode : Mode) → AllSame l m taken (dbref1_table mode) → dbref1_of mode l ≡ dbref1_of mode m
  dbref1-same taken Crate s = cc
  dbref1-same taken WwPdb s = cc

  module _ (options : Options) (remarks : List ℕ) where
    pub item-same : (k : Kind) → (describe k).part l ≡ (describe k).part m → AllSame l m options.exponents (table_of options.mode k ((describe k).part l))
        → item_of k (on options remarks l) ≡ item_of k (on options remarks m)
    item-same Empty p s = refl
    item-same Header p s = refl
    item-same Remark p s = cc
    item-same Atom p s = cc
    item-same Hetatm p s = cc
    item-same Anisou p s = cc
    item-same Cryst1 p s = let z = z-same options.exponents (has_z l) s in cc
    item-same (Scale row) p s = cc
    item-same (Origx row) p s = cc
    item-same (Mtrix row) p s = cc
    item-same Model p s = ap item.Model (model-same options.exponents options.mode s)
    item-same Master p s = cc
    item-same Dbref p s = cc
    item-same Dbref1 p s = ap item.Dbref1 (dbref1-same options.exponents options.mode s)
    item-same Dbref2 p s = cc
    item-same Seqres p s = cc
    item-same Seqadv p s = ap item.Seqadv (seqadv-same options.exponents (has_target l) refl (sym p) s)
    item-same Modres p s = cc
    item-same Ssbond p s =
        let z = tail-same options.exponents (has_tail l) s in
        cc
    item-same Endmdl p s = refl
    item-same Ter p s = refl
    item-same End p s = refl
