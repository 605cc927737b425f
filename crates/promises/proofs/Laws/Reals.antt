-- Demand 3: a fault that names a real field's columns is its own entry's, so that each field of an accepted record keeps its promise.
--     demand_3              every real field of an accepted record keeps its promise
--     unfaulted_written     where no fault names the columns, a number is written
--     plain-near            with the option off, the exponent is 0, and the double is as near as 01 asks
--     demand_3_tells        two written fields whose doubles have the same bits say the same number, with the same sign; the columns needn't
--                           be the same, nor the options
--     real_finite           every real of an accepted record is finite, also a default
--     counts-kept           the count of an R that a record shows is that of the written digits behind the point
--     counts-few            and it is at most 9
-- Assumes nothing.
use Prim.Native.Nat.{ℕ, ◌-◌, ◌*◌, ◌^◌, ◌≤◌}
use mathlib.Core.Path.{◌≡◌, refl, sym, ap, ◌∙◌}
use mathlib.Core.Logic.{◌≢◌}
use mathlib.Core.Bool.{Bool, true, false}
use mathlib.Core.List.{List, Memᴰ}
use native.Mathlib.Omega.{arith}
use borrow.Author.Tests.{leb-true}
use lib.Dec.{T, ltb}
use lib.ListN.{length}
use lib.IntN.{nat_abs}
use lib.Ieee.{Float, binary64, to_bits, of_bits}
use lib.Ieee.Scale.{finite}
use lib.Ieee.Bits.{of_bits-to_bits}
use Rattle.std.specs.Prelude.{ℤ, Option, Some, None, option_map, is_some, unwrap_or, Ok}
use Rattle.number.specs.Whole.{signed_of}
use Rattle.number.specs.Decimal.{plain, decimal_of}
use Rattle.number.specs.Wide.{wide, without_mark}
use Rattle.real.specs.Near.{Near}
use Rattle.real.specs.Real.{real, ten_thousandths_of}
use Rattle.real.specs.Sign.{below}
use Rattle.real.specs.declared.Real.{Real as RealRead}
use Rattle.real.specs.Wide.{raised, lowered, real_with, said_with}
use Rattle.real.proofs.Laws.Tells.{wide-tells, near_finite}
use Rattle.real.proofs.Laws.WideReal.{with-said, with_not, said-finer, over_plain}
use Rattle.number.specs.declared.decimal.Decimal.{Decimal}
use Rattle.number.specs.declared.wide.Wide.{Wide}
use Rattle.line.specs.Columns.{part_of}
use Rattle.line.specs.declared.columns.Columns.{Columns}
use Rattle.line.specs.declared.fault.Fault.{Fault}
use Rattle.line.specs.declared.fault.Sort.TheVariants.{Signed as ISort, Real as RSort}
use Rattle.field.specs.Number.{zero_real, real_at, places_at, factor_at}
use Rattle.field.specs.Table.{Entry, table_faults}
use Rattle.field.specs.Table.Entry.{r, a}
use Rattle.field.proofs.Laws.Fields.{part-short, real-none, factor-none}
use Rattle.row.specs.Rows.{◌is◌}
use Rattle.row.specs.declared.Value.{Value}
use Rattle.row.specs.declared.Value.TheVariants.{Real, Factor}
use Rattle.lexitem.specs.Fault.{told as toldFaults, faults_in}
use Rattle.lexitem.specs.declared.item.LexItem.{LexItem}
use Rattle.lexitem.specs.Describe.{describe, fields_of, faults_of}
use Rattle.lexer.specs.Refusals.{Input, kind, given}
use Rattle.lexer.specs.Lexed.{lexed}
use Rattle.lexer.proofs.Laws.Accepted.{accepted-faults}
use Rattle.promises.specs.Reals.{RealField, RealIn, Kept, table_in, on_in, named_by, in_ten_thousandths, places_said}
use Rattle.promises.proofs.Laws.RealsNamed.{chosen-named}
use Rattle.promises.proofs.Laws.RealsTable.{clear, real-chosen, factor-chosen}
use Rattle.promises.proofs.Laws.Kinds.{table-clear}
use Rattle.promises.proofs.Laws.Fields.{row-shown}
use Rattle.promises.proofs.Laws.RealsField.{decimal-reads, factor-reads, part-width, number-named, Looks, kept, Told, told}

-- with the option off the exponent is 0
plain-said : (t : List ℕ) {s : Bool} {m p : ℕ} {lower : Bool} {x : ℕ} → said_with false t ≡ Some (wide (plain s m p) lower x) → (x ≡ 0) × (lower ≡ false)
plain-said t {s} {m} {p} {lower} {x} e = go (decimal_of t) e
  where
    go : (d : Option Decimal) → without_mark d None ≡ Some (wide (plain s m p) lower x) → (x ≡ 0) × (lower ≡ false)
    go None e = absurd (let z : ◌≡◌ {A = ℕ} 0 1 = cc in omega arith)
    go (Some n) e =
        let same : wide n false 0 ≡ wide (plain s m p) lower x = cc in
        (sym (ap (λ (w : Wide). w.exponent) same), sym (ap (λ (w : Wide). w.lower) same))

integer-said : (z : Option ℤ) {s : Bool} {m p : ℕ} {lower : Bool} {x : ℕ} → in_ten_thousandths z ≡ Some (wide (plain s m p) lower x) → (x ≡ 0) × (lower ≡ false)
integer-said None e = absurd (let z : ◌≡◌ {A = ℕ} 0 1 = cc in omega arith)
integer-said (Some z) {s} {m} {p} {lower} {x} e =
    let same : wide (plain (below z) (nat_abs z) 4) false 0 ≡ wide (plain s m p) lower x = cc in
    (sym (ap (λ (w : Wide). w.exponent) same), sym (ap (λ (w : Wide). w.lower) same))

-- a double alone, and its places
value-of : (default : Float) (o : Option RealRead) → (unwrap_or o (real default 0)).value ≡ unwrap_or (option_map (λ (read : RealRead). read.value) o) default
value-of default (Some read) = refl
value-of default None = refl

some-value : (o : Option RealRead) → is_some o ≡ is_some (option_map (λ (read : RealRead). read.value) o)
some-value (Some read) = refl
some-value None = refl

abbrev places_in : Option RealRead → ℕ
places_in o = (unwrap_or o (real zero_real 0)).places

module _ (i : Input) (item : LexItem) (yes : (lexed i).outcome ≡ Ok item) where
  abbrev faults : List Fault
  faults = faults_in (toldFaults (lexed i).faults)

  line-faults : faults ≡ table_faults (given i) (table_in i)
  unfolding faults_of
  line-faults = accepted-faults i item yes

  table-passes : clear (table_in i) ≡ true
  table-passes = table-clear i.options.mode (kind i) ((describe (kind i)).part i.line)

  real-row : (at : Columns) (default y : Float) (n : ℕ) → Memᴰ (r at default) (table_in i) → Memᴰ (at.start is Real y n) (fields_of item)
      → (y ≡ real_at (on_in i) i.line at default) × (n ≡ places_at (on_in i) i.line at)
  real-row at default y n m k =
      let read : Value = Real (real_at (on_in i) i.line at default) (places_at (on_in i) i.line at) in
      let same : Real y n ≡ read = row-shown i item yes (r at default) m at.start read refl (λ rest. refl) (Real y n) k in
      (cc, cc)

  factor-row : (at : Columns) (y : Float) → Memᴰ (a at) (table_in i) → Memᴰ (at.start is Factor y) (fields_of item) → y ≡ factor_at i.line at
  factor-row at y m k =
      let read : Value = Factor (factor_at i.line at) in
      let same : Factor y ≡ read = row-shown i item yes (a at) m at.start read refl (λ rest. refl) (Factor y) k in
      cc

  looks : {f : RealField} → RealIn i item f → Looks f (named_by f.columns faults)
  unfolding real_at factor_at
  looks (RealIn.decimal at default y n m k) =
      let (only, bounded) = real-chosen (table_in i) table-passes at default m in
      let part = part_of i.line at in
      record {
        text = option_map (λ r. r.value) (real_with (on_in i) part);
        short = ltb (length i.line) at.end;
        none = λ short. rw (part-short i.line at short, real-none (on_in i)) refl;
        reads = decimal-reads (on_in i) part;
        value = (real-row at default y n m k).0 ∙ value-of default (real_with (on_in i) part);
        named-is =
            rw line-faults
            (chosen-named at (given i) (table_in i)
            ∙ ap (λ (es : List Entry). named_by at (table_faults (given i) es)) only
            ∙ number-named i.line at RSort (is_some (real_with (on_in i) part))
            ∙ rw (some-value (real_with (on_in i) part)) refl);
        finite_is = bounded;
        finer = said-finer (on_in i);
      }
  looks (RealIn.factor at y m k) =
      let (only, narrow) = factor-chosen (table_in i) table-passes at m in
      let part = part_of i.line at in
      record {
        text = ten_thousandths_of part;
        short = ltb (length i.line) at.end;
        none = λ short. rw (part-short i.line at short) factor-none;
        reads = factor-reads part (omega (arith, part-width i.line at, leb-true (at.end - at.start) 7 narrow));
        value = factor-row at y m k;
        named-is =
            rw line-faults
            (chosen-named at (given i) (table_in i)
            ∙ ap (λ (es : List Entry). named_by at (table_faults (given i) es)) only
            ∙ number-named i.line at ISort (is_some (ten_thousandths_of part)));
        finite_is = refl;
        finer = said-finer false;
      }

  module _ (f : RealField) (of : RealIn i item f) where
    pub demand_3 : Kept f.written (named_by f.columns faults) f
    demand_3 = kept f (named_by f.columns faults) (looks of)

    line-told : (s : Bool) (m p : ℕ) (lower : Bool) (x : ℕ) → f.written ≡ Some (wide (plain s m p) lower x) → Told f.scale s m p lower x f.double
    line-told = told f (named_by f.columns faults) (looks of)

    pub unfaulted_written : named_by f.columns faults ≡ 0 → f.written ≢ None
    unfaulted_written free none =
        let lacks : Kept None (named_by f.columns faults) f = rw none at demand_3 in
        let one = lacks.0 in omega (arith, one, free)

    pub real_finite : T (finite f.double)
    real_finite = go f.written refl
      where
        go : (w : Option Wide) → f.written ≡ w → T (finite f.double)
        go (Some w) e = near_finite (line-told w.decimal.minus w.decimal.digits w.decimal.places w.lower w.exponent e).near
        go None e = let lacks : Kept None (named_by f.columns faults) f = rw e at demand_3 in rw (lacks.1, (looks of).finite_is) tt

  -- with the option off the exponent is 0, and the double is as near as 01 asks
  pub plain-near : on_in i ≡ false → {f : RealField} → RealIn i item f → (s : Bool) (m p : ℕ) (lower : Bool) (x : ℕ) → f.written ≡ Some (wide (plain s m p) lower x)
      → (x ≡ 0) × Near s m p f.double
  plain-near off (RealIn.decimal at default y n k l) s m p lower x e =
      let d = line-told _ (RealIn.decimal at default y n k l) s m p lower x e in
      let (zero, low) = plain-said (part_of i.line at) (rw off at e) in
      (zero, over_plain (rw (off, zero, low) at d.near))
  plain-near off (RealIn.factor at y k l) s m p lower x e =
      let d = line-told _ (RealIn.factor at y k l) s m p lower x e in
      let (zero, low) = integer-said (signed_of (part_of i.line at)) e in
      (zero, over_plain (rw (zero, low) at d.near))

  -- ---- the counts
  module _ (at : Columns) (default y : Float) (n : ℕ) (m : Memᴰ (r at default) (table_in i)) (k : Memᴰ (at.start is Real y n) (fields_of item)) where
    abbrev said : Option Wide
    said = said_with (on_in i) (part_of i.line at)

    pub counts-kept : n ≡ places_said said
    unfolding places_at
    counts-kept = (real-row at default y n m k).1 ∙ go said refl
      where
        go : (w : Option Wide) → said ≡ w → places_in (real_with (on_in i) (part_of i.line at)) ≡ places_said w
        go (Some w) e = ap places_in (with-said (on_in i) (part_of i.line at) e).is
        go None e = ap places_in (with_not (on_in i) (part_of i.line at) e)

    pub counts-few : n ≤ 9
    counts-few = rw counts-kept (go said refl)
      where
        go : (w : Option Wide) → said ≡ w → places_said w ≤ 9
        go (Some w) e = (with-said (on_in i) (part_of i.line at) e).short
        go None e = omega arith

pub demand_3_tells : (i j : Input) (one other : LexItem) → (lexed i).outcome ≡ Ok one → (lexed j).outcome ≡ Ok other
    → (f g : RealField) → RealIn i one f → RealIn j other g
    → (s t : Bool) (m n p q : ℕ) (lower less : Bool) (x y : ℕ) → f.written ≡ Some (wide (plain s m p) lower x) → g.written ≡ Some (wide (plain t n q) less y)
    → to_bits binary64 f.double ≡ to_bits binary64 g.double
    → (s ≡ t) × (m * 10 ^ raised lower x p * 10 ^ lowered less y q ≡ n * 10 ^ raised less y q * 10 ^ lowered lower x p)
demand_3_tells i j one other accepts acceptsToo f g of ofToo s t m n p q lower less x y v w same =
    let c = line-told i one accepts f of s m p lower x v in
    let d = line-told j other acceptsToo g ofToo t n q less y w in
    let equal : f.double ≡ g.double =
    sym (of_bits-to_bits binary64 f.double c.held) ∙ ap (of_bits binary64) same ∙ of_bits-to_bits binary64 g.double d.held in
    wide-tells 126 s t m n (raised lower x p) (lowered lower x p) (raised less y q) (lowered less y q) f.double ((looks i one accepts of).finer c.near)
    (rw (← equal) at ((looks j other acceptsToo ofToo).finer d.near))
    c.few
    d.few
