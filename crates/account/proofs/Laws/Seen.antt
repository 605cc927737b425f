-- Where the faults of a line stand.
--     Seen             each begins before column 120, and has a column
--     faults-seen      those of a line that was read as its kind
-- Assumes nothing.
use Prim.Native.Nat.{ℕ, ◌+◌, ◌-◌, ◌<◌}
use mathlib.Core.Path.{◌≡◌, refl}
use mathlib.Core.Bool.{Bool, true, false, cond, ◌&&◌}
use mathlib.Core.List.{List, [], ◌∷◌, ◌++◌}
use native.Mathlib.Omega.{arith}
use lib.Dec.{T, ltb, ltb→lt}
use lib.Ieee.Fits.{and_l, and_r}
use lib.ListN.{length, take, get_or}
use Rattle.std.specs.Prelude.{is_some}
use Rattle.crystal.specs.Crystal.{has_z, crystal_table}
use Rattle.field.specs.Charge.{is_sign, charged, charge_faults, charge_faults_of}
use Rattle.field.specs.Number.{fault_at, wrong_at, rest_columns, number_faults, unsigned_from_faults}
use Rattle.field.specs.Remark.{is_known, known_faults}
use Rattle.field.specs.Table.{Entry, faults_by, table_faults}
use Rattle.field.specs.Table.Entry.{u, i, r, t, c, c?, a, u-rest, x, t_within, t-rest, t-end, charge, known, given, unwritten, triples}
use Rattle.field.specs.Text.{text_faults, character_faults}
use Rattle.kind.specs.Kind.{kind_of, kind_by, names, short_names, same}
use Rattle.kind.specs.declared.Kind.{Kind}
use Rattle.kind.specs.declared.Kind.TheVariants.{Empty, Header, Remark, Atom, Hetatm, Anisou, Cryst1, Scale, Origx, Mtrix, Model, Master, Dbref, Dbref1, Dbref2, Seqres, Seqadv, Modres, Ssbond, Endmdl, Ter, End}
use Rattle.lexer.specs.Refusals.{given as given_of, faults}
use Rattle.lexitem.specs.Describe.{fields_by, faults_of}
use Rattle.line.specs.Bytes.{bytes}
use Rattle.line.specs.Columns.{part_of, rest_of}
use Rattle.line.specs.Given.{Given}
use Rattle.line.specs.declared.columns.Columns.{Columns}
use Rattle.line.specs.declared.fault.Fault.{Fault}
use Rattle.line.specs.declared.fault.FaultKind.TheVariants.{NoDigit, NoSign, Unknown}
use Rattle.line.specs.declared.fault.Sort.TheVariants.{Unsigned}
use Rattle.number.specs.Whole.{digit, unsigned_of}
use Rattle.seqadv.specs.Seqadv.{has_target, seqadv_table}
use Rattle.ssbond.specs.Ssbond.{has_tail, ssbond_table}
use Rattle.account.specs.Account.{input_of}

abbrev pub Seen : List Fault → Type 0
Seen [] = Unit
Seen (f ∷ fs) = ((f.place < 120) × (0 < f.length)) × Seen fs

either-seen : (b : Bool) (s z : List Fault) → Seen s → Seen z → Seen (cond b s z)
either-seen true s z h k = h
either-seen false s z h k = k

append-seen : (s z : List Fault) → Seen s → Seen z → Seen (s ++ z)
append-seen [] z h k = k
append-seen (f ∷ s) z h k = (h.0, append-seen s z h.1 k)

-- ---- a field
-- all columns of the tables are before column 119, so that a charge's second is too
abbrev inside : Columns → Bool
inside at = ltb at.start 119 && ltb at.start at.end

-- in a line of so many bytes
abbrev stands : ℕ → Entry → Bool
stands n (u at) = inside at
stands n (i at) = inside at
stands n (r at default) = inside at
stands n (t at) = inside at
stands n (c at) = inside at
stands n (c? at) = inside at
stands n (a at) = inside at
stands n (u-rest start) = ltb start 119 && ltb start n
stands n (x at) = true
stands n (t_within at) = true
stands n (t-rest start) = true
stands n (t-end start) = true
stands n (charge at) = inside at
stands n (known at) = inside at
stands n (given column) = true
stands n (unwritten column) = true
stands n (triples start) = true

module _ (at : Columns) (h : T (inside at)) where
  early : at.start < 119
  early = ltb→lt at.start 119 (and_l (ltb at.start 119) (ltb at.start at.end) h)

  wide : at.start < at.end
  wide = ltb→lt at.start at.end (and_r (ltb at.start 119) (ltb at.start at.end) h)

  within : (at.start < 120) × (0 < at.end - at.start)
  within = (omega (arith, early), omega (arith, wide))

  number-seen : (l : List ℕ) (sort : _) (fine : Bool) → Seen (number_faults l at sort fine)
  unfolding number_faults
  number-seen l sort fine =
      either-seen (ltb (length l) at.end) _ _ (within, tt) (either-seen fine [] _ tt (within, tt))

  text-seen : (l : List ℕ) → Seen (text_faults l at)
  unfolding text_faults
  text-seen l = either-seen (ltb (length l) at.end) _ [] (within, tt) tt

  character_seen : (l : List ℕ) → Seen (character_faults l at.start)
  unfolding character_faults
  character_seen l = either-seen (ltb at.start (length l)) [] _ tt ((omega (arith, early), omega arith), tt)

  charge-seen : (l : List ℕ) → Seen (charge_faults l at)
  unfolding charge_faults charge_faults_of
  charge-seen l = go (charged (part_of l at)) (digit (get_or (part_of l at) 0 0)) (is_sign (get_or (part_of l at) 1 0))
    where
      go : (p q s : Bool)
          → Seen (cond p (cond q (cond s [] (record { kind = NoSign; place = at.start + 1; length = 1 } ∷ [])) (record { kind = NoDigit; place = at.start; length = 1 } ∷ [])) [])
      go true true true = tt
      go true true false = ((omega (arith, early), omega arith), tt)
      go true false s = ((omega (arith, early), omega arith), tt)
      go false q s = tt

  known-seen : (remarks : List ℕ) (n : ℕ) → Seen (known_faults remarks n at)
  unfolding known_faults
  known-seen remarks n = either-seen (is_known remarks n) [] (fault_at Unknown at ∷ []) tt (within, tt)

module _ (g : Given) where
  abbrev size : ℕ
  size = length g.line

  rest-seen : (start : ℕ) → T (ltb start 119 && ltb start size) → Seen (unsigned_from_faults g.line start)
  unfolding unsigned_from_faults
  rest-seen start h =
      let first = ltb→lt start 119 (and_l (ltb start 119) (ltb start size) h) in
      let reached = ltb→lt start size (and_r (ltb start 119) (ltb start size) h) in
      let one : Seen (wrong_at Unsigned (rest_columns g.line start) ∷ []) = ((omega arith, omega arith), tt) in
      either-seen (is_some (unsigned_of (rest_of g.line start))) [] (wrong_at Unsigned (rest_columns g.line start) ∷ []) tt one

  entry_seen : (e : Entry) → T (stands size e) → Seen (faults_by g e)
  entry_seen (u at) h = number-seen at h g.line _ _
  entry_seen (i at) h = number-seen at h g.line _ _
  entry_seen (r at default) h = number-seen at h g.line _ _
  entry_seen (t at) h = text-seen at h g.line
  entry_seen (c at) h = character_seen at h g.line
  entry_seen (c? at) h = character_seen at h g.line
  entry_seen (a at) h = number-seen at h g.line _ _
  entry_seen (u-rest start) h = rest-seen start h
  entry_seen (x at) h = tt
  entry_seen (t_within at) h = tt
  entry_seen (t-rest start) h = tt
  entry_seen (t-end start) h = tt
  entry_seen (charge at) h = charge-seen at h g.line
  entry_seen (known at) h = known-seen at h g.remarks _
  entry_seen (given column) h = tt
  entry_seen (unwritten column) h = tt
  entry_seen (triples start) h = tt

  -- ---- a table
  abbrev all_stand : List Entry → Bool
  all_stand [] = true
  all_stand (e ∷ es) = stands size e && all_stand es

  table-seen : (es : List Entry) → T (all_stand es) → Seen (table_faults g es)
  table-seen [] h = tt
  table-seen (e ∷ es) h =
      append-seen (faults_by g e) (table_faults g es) (entry_seen e (and_l (stands size e) (all_stand es) h))
      (table-seen es (and_r (stands size e) (all_stand es) h))

-- ---- a kind
module _ (number : ℕ) (l : List ℕ) where
  abbrev g : Given
  g = given_of (input_of number l)

  crystal-stands : (part : Bool) → has_z l ≡ part → T (all_stand g (crystal_table part))
  crystal-stands true h = rw h tt
  crystal-stands false h = tt

  seqadv-stands : (part : Bool) → T (all_stand g (seqadv_table part))
  seqadv-stands true = tt
  seqadv-stands false = tt

  ssbond-stands : (part : Bool) → T (all_stand g (ssbond_table part))
  ssbond-stands true = tt
  ssbond-stands false = tt

  kind-stands : ltb 6 (length l) ≡ true → (k : Kind) → T (all_stand g (fields_by k g))
  kind-stands long Empty = tt
  kind-stands long Header = tt
  kind-stands long Remark = tt
  kind-stands long Atom = tt
  kind-stands long Hetatm = tt
  kind-stands long Anisou = tt
  kind-stands long Cryst1 = crystal-stands (has_z l) refl
  kind-stands long (Scale row) = tt
  kind-stands long (Origx row) = tt
  kind-stands long (Mtrix row) = tt
  kind-stands long Model = rw long tt
  kind-stands long Master = tt
  kind-stands long Dbref = tt
  kind-stands long Dbref1 = tt
  kind-stands long Dbref2 = tt
  kind-stands long Seqres = tt
  kind-stands long Seqadv = seqadv-stands (has_target l)
  kind-stands long Modres = tt
  kind-stands long Ssbond = ssbond-stands (has_tail l)
  kind-stands long Endmdl = tt
  kind-stands long Ter = tt
  kind-stands long End = tt

  -- up to six bytes are of a kind that has no fields
  short-seen : (p q s : Bool) → Seen (faults_of (cond p (cond q Ter (cond s End Empty)) Empty) g)
  unfolding faults_of
  short-seen true true s = tt
  short-seen true false true = tt
  short-seen true false false = tt
  short-seen false q s = tt

  pub faults-seen : Seen (faults (input_of number l))
  unfolding kind_of faults_of
  faults-seen = go (ltb 6 (length l)) refl
    where
      go : (b : Bool) → ltb 6 (length l) ≡ b
          → Seen (faults_of (cond b (kind_by (take 6 l) names) (cond (ltb 2 (length l)) (kind_by (take 3 l) short_names) Empty)) g)
      go true h = table-seen g (fields_by (kind_by (take 6 l) names) g) (kind-stands h (kind_by (take 6 l) names))
      go false h = short-seen (ltb 2 (length l)) (same (take 3 l) (bytes "TER")) (same (take 3 l) (bytes "END"))
