-- A field that was read and is written with as many decimals as it was read with says the same sign, M and p.
--     written-as_read     for every kind that is written and each of its real fields that is a plain decimal, with exponents taken or not
--     never_rounded       a record is written only where the digits themselves fit; all others are refused
-- Assumes nothing.
use mathlib.Core.Path.{◌≡◌, refl, sym, ap, ◌∙◌}
use Prim.Native.Nat.{ℕ, ◌-◌, ◌≤◌}
use native.Mathlib.Omega.{arith}
use mathlib.Core.Logic.{⊎_elim}
use mathlib.Core.Bool.{Bool, true, false, cond}
use mathlib.Core.List.Memᴰ
use mathlib.Core.List.{List, [], ◌∷◌, Memᴰ}
use lib.ListN.{length}
use lib.Dec.{ltb, lit≤}
use lib.Ieee.{Float}
use Rattle.std.specs.Prelude.{Option, Some, None, unwrap_or}
use Rattle.line.specs.Columns.{part_of}
use Rattle.line.specs.Given.{Given}
use Rattle.line.specs.declared.options.Mode.{Mode}
use Rattle.line.specs.declared.options.Mode.TheVariants.{Crate, WwPdb}
use Rattle.model.specs.Model.{model_table}
use Rattle.line.specs.declared.columns.Columns.{Columns}
use Rattle.line.specs.declared.fault.Sort.{Sort}
use Rattle.line.specs.declared.fault.Sort.TheVariants.{Real as RSort}
use Rattle.number.specs.Decimal.{plain, decimal_of}
use Rattle.number.specs.declared.decimal.Decimal.{Decimal}
use Rattle.number.proofs.Laws.Width.{decimal_limits}
use Rattle.real.specs.Double.{double_of}
use Rattle.real.specs.Wide.{real_with}
use Rattle.real.proofs.Laws.Real.{real-is, real_not}
use Rattle.real.proofs.Laws.WideReal.{off-is, on-is}
use Rattle.field.specs.Number.{real_at, places_at, real_faults, number_faults, short_at, wrong_at, zero_real}
use Rattle.field.specs.Table.{Entry}
use Rattle.atom.specs.Atom.{basics_table, atom_table}
use Rattle.crystal.specs.Crystal.{z_entry, has_z}
use Rattle.transformation.specs.Transformation.{transformation_table}
use Rattle.kind.specs.declared.Kind.{Kind}
use Rattle.kind.specs.declared.Kind.TheVariants as kinds
use Rattle.layout.specs.Each.{each}
use Rattle.layout.specs.Places.{row_places, places_of}
use Rattle.lexitem.specs.Describe.{item_of, fields_of, fields_by}
use Rattle.real.specs.Real.{real as readReal}
use Rattle.real.specs.declared.Real.{Real as RealRead}
use Rattle.cell.specs.Cell.{real_fits, real_bytes}
use Rattle.cell.specs.Places.{places_of as inPlaces}
use Rattle.cell.specs.Text.{fixed}
use Rattle.cell.proofs.Laws.Cell.{cell-own}
use Rattle.sheet.specs.Ink.{real}
use Rattle.sheet.specs.Sheet.{◌holds◌, line_of, other_kind}
use Rattle.printer.specs.Sheets.{places_at as askedAt}
use Rattle.writer.proofs.Laws.When.{item-ascends}
use Rattle.roundtrip.specs.Returned.{Fit}
use Rattle.roundtrip.specs.Places.{as_read, SaysSame}
use Rattle.roundtrip.proofs.Laws.Stand.{Held, AllHeld, line_lined, lined_held}
use Rattle.roundtrip.proofs.Laws.Numbers.{real_in}

-- ---- one field
-- where no number is said there is a fault
faulted : (l : List ℕ) (at : Columns) (sort : Sort) → number_faults l at sort false ≡ [] → ⊥
unfolding number_faults
faulted l at sort e = go (ltb (length l) at.end) e
  where
    go : (b : Bool) → cond b (short_at at ∷ []) (wrong_at sort at ∷ []) ≡ [] → ⊥
    go true e = let z : ◌≡◌ {A = ℕ} 0 1 = cc in omega arith
    go false e = let z : ◌≡◌ {A = ℕ} 0 1 = cc in omega arith

-- so a real that has no fault with the option off is a plain decimal
plain_of : (l : List ℕ) (at : Columns) → real_faults false l at ≡ [] → (s : Bool) × (m : ℕ) × (p : ℕ) × (decimal_of (part_of l at) ≡ Some (plain s m p))
plain_of l at none = go (decimal_of (part_of l at)) refl
  where
    go : (d : Option Decimal) → decimal_of (part_of l at) ≡ d → (s : Bool) × (m : ℕ) × (p : ℕ) × (decimal_of (part_of l at) ≡ Some (plain s m p))
    go (Some d) e = (d.minus, d.digits, d.places, e)
    go None e = absurd (faulted l at RSort (rw (off-is (part_of l at), (real_not (part_of l at)).0 e) at none))

-- no number of more than ten bytes is read, hence the bound
module _ (on : Bool) (old new : List ℕ) (at : Columns) (default : Float)
    (h : Held new (at holds real (places_at on old at) (real_at on old at default))) (few : at.end - at.start ≤ 10) where
  plain-is : (l : List ℕ) {s : Bool} {m p : ℕ} → decimal_of (part_of l at) ≡ Some (plain s m p) → real_with on (part_of l at) ≡ Some (readReal (double_of s m p) p)
  plain-is l e = on-is (part_of l at) (real-is (part_of l at) e) on

  own-said : (s : Bool) (m p : ℕ) → decimal_of (part_of old at) ≡ Some (plain s m p)
      → (length (fixed p s m) ≤ at.end - at.start) × (decimal_of (part_of new at) ≡ Some (plain s m p))
  unfolding real_at places_at
  own-said s m p e =
      let limits = decimal_limits (part_of old at) e in
      let w = at.end - at.start in
      let value : real_at on old at default ≡ double_of s m p = ap (λ (r : Option RealRead). (unwrap_or r (readReal default 0)).value) (plain-is old e) in
      let places : places_at on old at ≡ p = ap (λ (r : Option RealRead). (unwrap_or r (readReal zero_real 0)).places) (plain-is old e) in
      let fits : real_fits w p (inPlaces p (double_of s m p)) ≡ true = rw (value, places) at h.fits in
      let part : part_of new at ≡ real_bytes w p (inPlaces p (double_of s m p)) = rw (value, places) at h.part in
      let (short, said) = cell-own s m p w limits.0 limits.1 fits few in
      (short, ap decimal_of part ∙ said)

  field-same : real_faults false old at ≡ [] → SaysSame on old new at default
  unfolding real_at places_at
  field-same none =
      let (s, m, p, e) = plain_of old at none in
      let said = (own-said s m p e).1 in
      let same = plain-is new said ∙ sym (plain-is old e) in
      record {
        digits = said ∙ sym e;
        value = ap (λ (r : Option RealRead). (unwrap_or r (readReal default 0)).value) same;
        places = ap (λ (r : Option RealRead). (unwrap_or r (readReal zero_real 0)).places) same;
        clear = (real_in on default h few).1;
      }

-- ---- the real fields of a table
abbrev OfReal : (Columns → Float → Type 0) → Entry → Type 0
OfReal P (Entry.u at) = Unit {0}
OfReal P (Entry.i at) = Unit {0}
OfReal P (Entry.r at default) = P at default
OfReal P (Entry.t at) = Unit {0}
OfReal P (Entry.c at) = Unit {0}
OfReal P (Entry.c? at) = Unit {0}
OfReal P (Entry.a at) = Unit {0}
OfReal P (Entry.u-rest start) = Unit {0}
OfReal P (Entry.x at) = Unit {0}
OfReal P (Entry.t_within at) = Unit {0}
OfReal P (Entry.t-rest start) = Unit {0}
OfReal P (Entry.t-end start) = Unit {0}
OfReal P (Entry.charge at) = Unit {0}
OfReal P (Entry.known at) = Unit {0}
OfReal P (Entry.given column) = Unit {0}
OfReal P (Entry.unwritten column) = Unit {0}
OfReal P (Entry.triples start) = Unit {0}

abbrev Reals : (Columns → Float → Type 0) → List Entry → Type 0
Reals P [] = Unit {0}
Reals P (e ∷ rest) = OfReal P e × Reals P rest

module _ (P : Columns → Float → Type 0) where
  among : (table : List Entry) (e : Entry) → Reals P table → Memᴰ e table → OfReal P e
  among [] e all m = absurd (Memᴰ.not-nil m)
  among (f ∷ rest) e all m = ⊎_elim (λ same. rw same all.0) (λ m. among rest e all.1 m) (Memᴰ.cases_cons m)

  -- what ATOM and ANISOU share, CRYST1's Z and MODEL's number are no reals
  basics-none : Reals P basics_table
  basics-none = (tt, (tt, (tt, (tt, (tt, (tt, (tt, (tt, (tt, (tt, tt))))))))))

  z-none : (b : Bool) → OfReal P (z_entry b)
  z-none true = tt
  z-none false = tt

  model-none : (mode : Mode) → Reals P (model_table mode)
  model-none Crate = (tt, tt)
  model-none WwPdb = (tt, tt)

-- ---- each of them is written in its own columns, with its own count
module _ (g : Given) (new : List ℕ) where
  abbrev Own : Columns → Float → Type 0
  Own at default =
      Held new (at holds real (places_at g.options.exponents g.line at) (real_at g.options.exponents g.line at default))
      × (at.end - at.start ≤ 10)

  -- a line of another kind never fits
  other_fits : AllHeld new other_kind.cells → ⊥
  other_fits (h, none) = let e = h.fits in let z : ◌≡◌ {A = ℕ} 0 1 = cc in omega arith

  module _ (standIn name : List ℕ) where
    atom-own : AllHeld new (as_read kinds.Atom g standIn name).cells → Reals Own atom_table
    unfolding each row_places askedAt
    atom-own (serial, (called, (alternate, (residue, (chain, (number, (insertion, (x, (y, (z, (o, (b, behind)))))))))))) =
        ((x, lit≤ tt), ((y, lit≤ tt), ((z, lit≤ tt), ((o, lit≤ tt), ((b, lit≤ tt), basics-none Own)))))

    row-own : (row : ℕ) → AllHeld new (as_read (kinds.Scale row) g standIn name).cells → Reals Own transformation_table
    unfolding each row_places askedAt
    row-own row (n, (a, (b, (c, (d, none))))) = ((a, lit≤ tt), ((b, lit≤ tt), ((c, lit≤ tt), ((d, lit≤ tt), tt))))

    all_own : (k : Kind) → AllHeld new (as_read k g standIn name).cells → Reals Own (fields_by k g)
    unfolding each row_places askedAt
    all_own kinds.Empty h = absurd (other_fits h)
    all_own kinds.Header h = absurd (other_fits h)
    all_own kinds.Remark h = absurd (other_fits h)
    all_own kinds.Atom h = atom-own h
    all_own kinds.Hetatm h = atom-own h
    all_own kinds.Anisou h = (tt, (tt, (tt, (tt, (tt, (tt, basics-none Own))))))
    all_own kinds.Cryst1 (a, (b, (c, (alpha, (beta, (gamma, behind)))))) =
        ((a, lit≤ tt), ((b, lit≤ tt), ((c, lit≤ tt), ((alpha, lit≤ tt), ((beta, lit≤ tt), ((gamma, lit≤ tt), (tt, (z-none Own (has_z g.line), tt))))))))
    all_own (kinds.Scale row) h = row-own row h
    all_own (kinds.Origx row) h = row-own row h
    all_own (kinds.Mtrix row) (n, (s, (a, (b, (c, (d, behind)))))) =
        (tt, ((a, lit≤ tt), ((b, lit≤ tt), ((c, lit≤ tt), ((d, lit≤ tt), (tt, tt))))))
    all_own kinds.Model h = model-none Own g.options.mode
    all_own kinds.Master h = absurd (other_fits h)
    all_own kinds.Dbref h = absurd (other_fits h)
    all_own kinds.Dbref1 h = absurd (other_fits h)
    all_own kinds.Dbref2 h = absurd (other_fits h)
    all_own kinds.Seqres h = absurd (other_fits h)
    all_own kinds.Seqadv h = absurd (other_fits h)
    all_own kinds.Modres h = absurd (other_fits h)
    all_own kinds.Ssbond h = absurd (other_fits h)
    all_own kinds.Endmdl h = tt
    all_own kinds.Ter h = tt
    all_own kinds.End h = tt

-- ---- so each says the same, and where its digits don't fit nothing is written
module _ (k : Kind) (g : Given) (standIn name : List ℕ) (fit : Fit (as_read k g standIn name).cells) (at : Columns) (default : Float)
    (m : Memᴰ (Entry.r at default) (fields_by k g)) where
  abbrev line : List ℕ
  line = line_of (as_read k g standIn name)

  own : Own g line at default
  own =
      let asked = places_of (fields_of (item_of k g)) in
      let ascends = item-ascends g.line standIn name asked (item_of k g) in
      let held = lined_held (line_lined (as_read k g standIn name) ascends fit) in
      among (Own g line) (fields_by k g) (Entry.r at default) (all_own g line standIn name k held) m

  -- a field that has no fault with the option off has no exponent
  pub written-as_read : real_faults false g.line at ≡ [] → SaysSame g.options.exponents g.line line at default
  written-as_read none = field-same g.options.exponents g.line line at default own.0 own.1 none

  pub never_rounded : (s : Bool) (m p : ℕ) → decimal_of (part_of g.line at) ≡ Some (plain s m p) → length (fixed p s m) ≤ at.end - at.start
  never_rounded s m p e = (own-said g.options.exponents g.line line at default own.0 own.1 s m p e).0
