-- What goes kind by kind, all of it by computing.
--     format_departures     the departures from the format that are stated are all there are, in each mode
--     departures_true       and each that is stated is there
--     item-kind             the record of a kind is of that kind
--     Asks, asks            what a kind asks of its line is what 01's table of refusals says of it
--     least-asked           and the least lengths are asked for
--     table-clear           no kind has a table in which two entries can name one real field's columns
-- Assumes nothing.
use Prim.Native.Nat.{ℕ}
use mathlib.Core.Path.{◌≡◌, refl}
use mathlib.Core.Logic.{◌⊎◌, inl, inr}
use mathlib.Core.Bool.{Bool, true}
use mathlib.Core.List.{List, []}
use lib.Ieee.Bits.{is_true}
use Rattle.line.specs.Given.{Given}
use Rattle.line.specs.declared.options.Mode.{Mode}
use Rattle.line.specs.declared.options.Mode.TheVariants.{Crate, WwPdb}
use Rattle.kind.specs.declared.Kind.{Kind}
use Rattle.kind.specs.declared.Kind.TheVariants.{Empty, Header, Remark, Atom, Hetatm, Anisou, Cryst1, Scale, Origx, Mtrix, Model, Master, Dbref, Dbref1, Dbref2, Seqres, Seqadv, Modres, Ssbond, Endmdl, Ter, End}
use Rattle.format.specs.Format.{FormatField}
use Rattle.lexitem.specs.Describe.{bound_of, table_of, item_of, kind_of_item}
use Rattle.lexitem.specs.declared.bound.Bound.{Bound}
use Rattle.lexitem.specs.declared.bound.Bound.TheVariants as bound
use Rattle.lexitem.proofs.Laws.Kinds.{by_table}
use Rattle.promises.specs.Departures.{ours, theirs, Departs}
use Rattle.promises.specs.Refusing.{Least}
use Rattle.promises.proofs.Laws.RealsTable.{clear}

pub format_departures : (mode : Mode) (k : Kind)
    → ((ours mode k ≡ []) × (theirs mode k ≡ [])) ⊎ Departs mode k (ours mode k) (theirs mode k)
format_departures mode Empty = inl (refl, refl)
format_departures mode Header = inl (refl, refl)
format_departures mode Remark = inr Departs.remark
format_departures mode Atom = inr Departs.atom
format_departures mode Hetatm = inr Departs.hetatm
format_departures mode Anisou = inr Departs.anisou
format_departures mode Cryst1 = inr Departs.cryst1
format_departures mode (Scale row) = inl (refl, refl)
format_departures mode (Origx row) = inl (refl, refl)
format_departures mode (Mtrix row) = inl (refl, refl)
format_departures Crate Model = inr Departs.model
format_departures WwPdb Model = inl (refl, refl)
format_departures mode Master = inl (refl, refl)
format_departures mode Dbref = inr Departs.dbref
format_departures Crate Dbref1 = inr Departs.dbref1
format_departures WwPdb Dbref1 = inr Departs.dbref1_there
format_departures mode Dbref2 = inr Departs.dbref2
format_departures mode Seqres = inl (refl, refl)
format_departures mode Seqadv = inr Departs.seqadv
format_departures mode Modres = inr Departs.modres
format_departures mode Ssbond = inr Departs.ssbond
format_departures mode Endmdl = inl (refl, refl)
format_departures mode Ter = inr Departs.ter
format_departures mode End = inl (refl, refl)

pub departures_true : {mode : Mode} {k : Kind} {own their : List FormatField} → Departs mode k own their → (ours mode k ≡ own) × (theirs mode k ≡ their)
departures_true Departs.remark = (refl, refl)
departures_true Departs.cryst1 = (refl, refl)
departures_true Departs.modres = (refl, refl)
departures_true Departs.atom = (refl, refl)
departures_true Departs.hetatm = (refl, refl)
departures_true Departs.anisou = (refl, refl)
departures_true Departs.model = (refl, refl)
departures_true Departs.dbref = (refl, refl)
departures_true Departs.dbref1 = (refl, refl)
departures_true Departs.dbref1_there = (refl, refl)
departures_true Departs.dbref2 = (refl, refl)
departures_true Departs.seqadv = (refl, refl)
departures_true Departs.ssbond = (refl, refl)
departures_true Departs.ter = (refl, refl)

-- ---- the records
pub item-kind : (k : Kind) (g : Given) → kind_of_item (item_of k g) ≡ k
item-kind Empty g = refl
item-kind Header g = refl
item-kind Remark g = refl
item-kind Atom g = refl
item-kind Hetatm g = refl
item-kind Anisou g = refl
item-kind Cryst1 g = refl
item-kind (Scale row) g = refl
item-kind (Origx row) g = refl
item-kind (Mtrix row) g = refl
item-kind Model g = refl
item-kind Master g = refl
item-kind Dbref g = refl
item-kind Dbref1 g = refl
item-kind Dbref2 g = refl
item-kind Seqres g = refl
item-kind Seqadv g = refl
item-kind Modres g = refl
item-kind Ssbond g = refl
item-kind Endmdl g = refl
item-kind Ter g = refl
item-kind End g = refl

-- ---- the refusals
abbrev pub Asks : Kind → Bound → Type 0
Asks k bound.Header = k ≡ Header
Asks k bound.Remark = k ≡ Remark
Asks k (bound.Least n) = Least k n
Asks k bound.Free = Unit {0}

pub asks : (k : Kind) → Asks k (bound_of k)
asks Empty = tt
asks Header = refl
asks Remark = refl
asks Atom = tt
asks Hetatm = tt
asks Anisou = tt
asks Cryst1 = Least.cryst1
asks (Scale n) = tt
asks (Origx n) = tt
asks (Mtrix n) = tt
asks Model = tt
asks Master = tt
asks Dbref = tt
asks Dbref1 = tt
asks Dbref2 = tt
asks Seqres = tt
asks Seqadv = Least.seqadv
asks Modres = Least.modres
asks Ssbond = Least.ssbond
asks Endmdl = tt
asks Ter = tt
asks End = tt

pub least-asked : {k : Kind} {n : ℕ} → Least k n → bound_of k ≡ bound.Least n
least-asked Least.cryst1 = refl
least-asked Least.modres = refl
least-asked Least.seqadv = refl
least-asked Least.ssbond = refl

-- ---- the tables
pub table-clear : (mode : Mode) (k : Kind) (part : Bool) → clear (table_of mode k part) ≡ true
table-clear mode k part = is_true (clear (table_of mode k part)) (by_table clear tt mode k part)
